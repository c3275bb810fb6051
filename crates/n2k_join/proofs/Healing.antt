-- A message whose pieces come in order under its key is given, whatever group with a frame 0 was open before.
use Rattle.std.proofs.Common.{◌≡◌, ℕ, zero, suc, ◌+◌, ◌<◌, ◌≤◌, Bool, true, false, List, [], ◌∷◌, ◌++◌, length, refl, ap, subst, ◌∙◌, sym, arith, append_assoc, Option, Some, None, ◌==◌, min, cond, find, filter_map, map, Contains, IfSome, option_and_then}
use Rattle.std.specs.List.{AllByRecursion, last_or, range_with_len, cons_option}
use Rattle.std.proofs.lemmas.Bool.{cases_lt, le-leb, eqb-true, ne_eqb, and_from, lt-ltb, or_left, or_right, or_from}
use Rattle.std.proofs.lemmas.Option.{none-some, same_Some}
use Rattle.std.proofs.lemmas.List.{append_cancel_left, length-map}
use Rattle.std.proofs.lemmas.List.FromFn.{length-range_with_len}
use Rattle.std.proofs.lemmas.List.Elements.{recursion_from_All}
use Rattle.n2k_wire.specs.declared.entry.Entry.{Entry}
use Rattle.n2k_table.specs.declared.definition.Kind.{Kind}
use Rattle.n2k_join.specs.Frames.{Key, Frame, frames, of_key}
use Rattle.n2k_join.specs.Groups.{EndTest, has_number, has_from, has_twice, within, complete, closes, cut_from, cut, open_of, first, last_line, incomplete}
use Rattle.n2k_join.specs.Messages.{is_done_at, broken_of, broken_among, broken_begun, broken_with, broken}
use Rattle.n2k_join.specs.Pieces.{Sending, last_piece}
use Rattle.n2k_join.specs.Scattered.{key_of_sending, all_frames, IsPieceOf}
use Rattle.n2k_join.specs.Arrival.{Brings, ComesNext, LeavesZero, Heals}
use Rattle.n2k_join.proofs.Cuts.{cut-all, cut-joined, cut-nonempty}
use Rattle.n2k_join.proofs.Keys.{of_key-append, of_key-keeps}
use Rattle.n2k_join.proofs.Logs.{frames_from-append, frames-log}
use Rattle.n2k_join.proofs.Given.{IsUpTo, first-le, up_to}
use Rattle.n2k_join.proofs.Stretches.{IsStretch, cut_stretch, goes_on-within, stretch_pieces}
use Rattle.n2k_join.proofs.Lines.{RiseFrom, frames-rise, line_of}
use Rattle.n2k_join.proofs.GroupLines.{IsGroup, IsDone, first_above, done_found}
use Rattle.n2k_join.proofs.Arriving.{StandsAt, stand, key-rise, brings}
use Rattle.n2k_join.specs.Window.{Window}
use Rattle.n2k_join.proofs.Rising.{last-all, all-prefix, all-back, all-joined, rise-least, rise-rest}
use Rattle.n2k_join.specs.State.{Rise}

-- if the group so far ends before a frame, the frames before that frame and the frames from it on are cut separately
cut_splits_from : (ends : EndTest) (o : Option (List Frame)) (g fs : List Frame) (x : Frame) (rest : List Frame)
    → ((h : List Frame) → last_or o (cut_from ends g fs) ≡ Some h → closes ends h x ≡ true)
    → cut_from ends g (fs ++ (x ∷ rest)) ≡ cut_from ends g fs ++ cut_from ends (x ∷ []) rest
cut_splits_from ends o g [] x rest last = rw (last g refl) refl
cut_splits_from ends o g (f ∷ fs) x rest last =
    (elim (closes ends g f) as (λ b. ((h : List Frame) → last_or o (cond b (g ∷ cut_from ends (f ∷ []) fs) (cut_from ends (g ++ f ∷ []) fs)) ≡ Some h → closes ends h x ≡ true)
    → cond b (g ∷ cut_from ends (f ∷ []) (fs ++ (x ∷ rest))) (cut_from ends (g ++ f ∷ []) (fs ++ (x ∷ rest)))
    ≡ cond b (g ∷ cut_from ends (f ∷ []) fs) (cut_from ends (g ++ f ∷ []) fs) ++ cut_from ends (x ∷ []) rest) [
      | true ↦ λ last. ap (λ l. g ∷ l) (cut_splits_from ends (Some g) (f ∷ []) fs x rest last)
      | false ↦ λ last. cut_splits_from ends o (g ++ f ∷ []) fs x rest last
    ]) last

pub cut_splits : (ends : EndTest) (fs : List Frame) (x : Frame) (rest : List Frame) → ((h : List Frame) → last_or None (cut ends fs) ≡ Some h → closes ends h x ≡ true) → cut ends (fs ++ (x ∷ rest)) ≡ cut ends fs ++ cut ends (x ∷ rest)
unfolding cut
cut_splits ends [] x rest last = refl
cut_splits ends (f ∷ fs) x rest last = cut_splits_from ends None (f ∷ []) fs x rest last

-- the groups' first lines rise
firsts_rise : (n : ℕ) (gs : List (List Frame)) → AllByRecursion IsGroup gs → RiseFrom n (all_frames gs) → Rise first n gs
firsts_rise n [] some rise = tt
firsts_rise n ([] ∷ gs) some rise = absurd (omega (arith, some.0))
firsts_rise n ((f ∷ g) ∷ gs) some rise = grind (arith, firsts_rise (f.line + 1) gs some.1 (rise-rest line_of (f.line + 1) g (all_frames gs) rise.1))

-- An incomplete group that another follows in a cut is broken when its window ends or that group begins, whichever is
-- first.
broken_among-at : (w : Window) (n : ℕ) (a : List (List Frame)) (left g : List Frame) (later : List (List Frame)) → Rise first n (a ++ (left ∷ g ∷ later)) → complete left ≡ false
    → broken_among w (first left) (min (first left + w.lines) (first g)) (a ++ (left ∷ g ∷ later)) ≡ Some left
broken_among-at w n [] left g later rise c = grind arith
broken_among-at w n (h ∷ a) left g later rise c = grind (arith, broken_among-at w (first h + 1) a left g later rise.1 c, rise-rest)

-- a list that has a last item ends with it
ends_with : (o : Option (List Frame)) (gs : List (List Frame)) (l : List Frame) → (o ≡ Some l → ⊥) → last_or o gs ≡ Some l
    → (before : List (List Frame)) × (gs ≡ before ++ l ∷ [])
ends_with o [] l none e = absurd (none e)
ends_with o (g ∷ []) l none e = ([], ap (λ h. h ∷ []) (same_Some g l e))
ends_with o (g ∷ h ∷ gs) l none e =
    let rest = ends_with None (h ∷ gs) l (λ t. none-some l t) e in
    (g ∷ rest.0, ap (λ hs. g ∷ hs) rest.1)

-- the value of a number of a range is among the values of the range
given_among : {Y : Type 0} (h : ℕ → Option Y) (y : Y) (i a n : ℕ) → a ≤ i → i < a + n → h i ≡ Some y → Contains (filter_map h (range_with_len a n)) y
given_among h y i a zero l u e = absurd (omega (arith, l, u))
given_among {Y} h y i a (suc n) l u e = by (a == i) refl (given_among h y i (a + 1) n)
  where
    here : (o : Option Y) → o ≡ Some y → Contains (cons_option o (filter_map h (range_with_len (a + 1) n))) y
    here o t = grind arith

    there : (o : Option Y) → Contains (filter_map h (range_with_len (a + 1) n)) y → Contains (cons_option o (filter_map h (range_with_len (a + 1) n))) y
    there None c = c
    there (Some z) c = (suc c.0, omega (arith, c.1), c.2)

    by : (b : Bool) → (a == i) ≡ b → (a + 1 ≤ i → i < (a + 1) + n → h i ≡ Some y → Contains (filter_map h (range_with_len (a + 1) n)) y) → Contains (cons_option (h a) (filter_map h (range_with_len (a + 1) n))) y
    by b t rest = grind (arith, here, eqb-true, there)

-- the group of a key's cut that begins at its first line, if it is broken at a line
broken_where : (w : Window) (fs : List Frame) (k : Key) (left : List Frame) (line : ℕ) → IsGroup left → AllByRecursion (StandsAt fs k) left → broken_among w (first left) line (cut (within w) (of_key k fs)) ≡ Some left
    → broken_begun w fs line (first left) ≡ Some (broken_of k left)
broken_where w fs k [] line some stands is = absurd (omega (arith, some))
broken_where w fs k (f ∷ left) line some stands is = grind arith

-- frames with consecutive rising numbers have no repeated number
none_below : (m a n : ℕ) (fs : List Frame) → m < a → map (λ (f : Frame). f.number) fs ≡ range_with_len a n → has_number m fs ≡ false
none_below m a n [] below numbers = refl
none_below m a zero (f ∷ fs) below numbers = absurd (cc)
none_below m a (suc n) (f ∷ fs) below numbers = grind (arith, none_below m (a + 1) n fs (omega arith) cc, or_from, ne_eqb)

pub rising-apart : (a n : ℕ) (fs : List Frame) → map (λ (f : Frame). f.number) fs ≡ range_with_len a n → has_twice fs ≡ false
rising-apart a n [] numbers = refl
rising-apart a zero (f ∷ fs) numbers = absurd (cc)
rising-apart a (suc n) (f ∷ fs) numbers = grind (arith, rising-apart (a + 1) n fs cc, none_below)

pub rising-length : (a n : ℕ) (fs : List Frame) → map (λ (f : Frame). f.number) fs ≡ range_with_len a n → length fs ≡ n
rising-length a n fs numbers = grind (arith, length-map, length-range_with_len)

rising-first : (n : ℕ) (f : Frame) (fs : List Frame) → 0 < n → map (λ (g : Frame). g.number) (f ∷ fs) ≡ range_with_len 0 n → f.number ≡ 0
rising-first zero f fs some numbers = absurd (omega arith)
rising-first (suc n) f fs some numbers = cc

pub some-from : (h : List Frame) → 0 < length h → has_from 0 h ≡ true
some-from [] some = absurd (omega (arith, some))
some-from (f ∷ h) some = or_left _ _ (le-leb 0 f.number (omega arith))

-- an open group with a frame 0, a complete group, or one whose window has ended ends before another frame 0
ends_before : (w : Window) (n : ℕ) (o : Option (List Frame)) (h : List Frame) (f : Frame) → IfSome o (IsUpTo n) → f.number ≡ 0 → n < f.line → IfSome (option_and_then incomplete o) (λ g. w.in_order ≡ false → n < first g + w.lines → has_number 0 g ≡ true) → o ≡ Some h → closes (within w) h f ≡ true
ends_before w n o h f up zeroth past open_has last = grind (arith, first-le, and_from, lt-ltb, some-from, or_left, or_right, le-leb, cases_lt)

-- the next frame of the key comes after all entries before it
next_past : (kind : ℕ → Option Kind) (prefix back : List Entry) (k : Key) (f : Frame) (g : List Frame) → of_key k (frames kind (prefix ++ back)) ≡ of_key k (frames kind prefix) ++ (f ∷ g) → length prefix < f.line
next_past kind prefix back k f g next = grind (arith, frames_from-append kind 1 prefix back, frames-rise kind (1 + length prefix) back, of_key-append, append_cancel_left, of_key-keeps, rise-least)

-- the open group has a frame 0, unless the window is in order
abbrev HasZero : Window → (ℕ → Option Kind) → List Entry → Sending → Type 0
HasZero w kind prefix x = IfSome (open_of (within w) (key_of_sending x) (frames kind prefix)) (λ last. w.in_order ≡ false → length prefix < first last + w.lines → has_number 0 last ≡ true)

heals_by : (w : Window) (kind : ℕ → Option Kind) (prefix back : List Entry) (x : Sending) (group after : List Frame) → ComesNext w kind prefix back x group after → HasZero w kind prefix x → Heals w kind prefix back x group
unfolding broken_with
heals_by w kind prefix back x [] after comes left_open = absurd (let none : 0 ≡ last_piece x.message + 1 = rising-length 0 _ [] comes.rising in omega arith)
heals_by w kind prefix back x (f ∷ g) after comes left_open =
    let k = key_of_sending x in
    let es = prefix ++ back in
    let before = of_key k (frames kind prefix) in
    let pieces : AllByRecursion (IsPieceOf x) (f ∷ g) = recursion_from_All (IsPieceOf x) (f ∷ g) comes.each in
    let apart : has_twice (f ∷ g) ≡ false = rising-apart 0 _ (f ∷ g) comes.rising in
    let full : length (f ∷ g) ≡ last_piece x.message + 1 = rising-length 0 _ (f ∷ g) comes.rising in
    let goes_on = goes_on-within w (last_piece x.message + 1) (f ∷ g) apart (λ _. comes.rising) (recursion_from_All (λ (i : Frame). i.line < first (f ∷ g) + w.lines) (f ∷ g) comes.in_time) in
    let stretch : IsStretch (within w) (f ∷ g) = stretch_pieces (within w) x (f ∷ g) pieces apart full goes_on in
    let zeroth : f.number ≡ 0 = rising-first (last_piece x.message + 1) f g (omega arith) comes.rising in
    let gs = cut (within w) before ++ ((f ∷ g) ∷ cut (within w) after) in
    let cuts : cut (within w) (of_key k (frames kind es)) ≡ gs =
    ap (cut (within w)) comes.next
    ∙ (cut_splits (within w) before f (g ++ after) (λ h last. ends_before w (length prefix) (last_or None (cut (within w) before)) h f (last-all (IsUpTo (length prefix)) None (cut (within w) before) tt (up_to (within w) (length prefix) k (frames kind prefix) (frames-log kind prefix))) zeroth (next_past kind prefix back k f (g ++ after) comes.next) left_open last)
    ∙ ap (λ l. cut (within w) before ++ l) (cut_stretch (within w) (f ∷ g) after stretch)) in
    let some : AllByRecursion IsGroup gs = subst (AllByRecursion IsGroup) cuts (cut-nonempty (within w) (of_key k (frames kind es))) in
    let rise : RiseFrom 1 (all_frames gs) = subst (λ hs. RiseFrom 1 (all_frames hs)) cuts (subst (RiseFrom 1) (sym (cut-joined (within w) (of_key k (frames kind es)))) (key-rise kind es k)) in
    let done : IsDone gs (f ∷ g) = (all-back (IsDone gs) (cut (within w) before) ((f ∷ g) ∷ cut (within w) after) (done_found 1 gs some rise)).0 in
    let standing : AllByRecursion (StandsAt (frames kind es) k) (f ∷ g) =
    all-prefix (StandsAt (frames kind es) k) (f ∷ g) after (all-back (StandsAt (frames kind es) k) before ((f ∷ g) ++ after) (subst (AllByRecursion (StandsAt (frames kind es) k)) comes.next (stand kind es k))) in
    let all_stand : AllByRecursion (AllByRecursion (StandsAt (frames kind es) k)) gs = subst (AllByRecursion (AllByRecursion (StandsAt (frames kind es) k))) cuts (cut-all (within w) (StandsAt (frames kind es) k) (of_key k (frames kind es)) (stand kind es k)) in
    let brought : Brings w kind es x (f ∷ g) =
    brings w kind es k x (f ∷ g) (record { stretch = record { pieces = record { each = comes.each; apart = apart }; whole = full }; goes_on = goes_on; stands = standing; found = ap (find (is_done_at (last_line (f ∷ g)))) cuts ∙ done stretch.whole }) in
    record {
      given = brought.given;
      breaks = by_open (last_or None (cut (within w) before)) refl (firsts_rise 1 gs some rise) some all_stand (all-joined _ gs (rise-least line_of 1 (all_frames gs) rise)) cuts;
    }
  where
    told : Option (List Frame) → Type 0
    told o = IfSome o (λ left. Contains (broken w kind (prefix ++ back) (min (first left + w.lines) f.line)) (broken_of (key_of_sending x) left))

    at_left : (left : List Frame) (b : List (List Frame)) (gs : List (List Frame)) → gs ≡ b ++ (left ∷ (f ∷ g) ∷ cut (within w) after) → complete left ≡ false → Rise first 1 gs → AllByRecursion IsGroup gs
        → AllByRecursion (AllByRecursion (StandsAt (frames kind (prefix ++ back)) (key_of_sending x))) gs → AllByRecursion (AllByRecursion (λ (i : Frame). 1 ≤ i.line)) gs → cut (within w) (of_key (key_of_sending x) (frames kind (prefix ++ back))) ≡ gs
        → Contains (broken w kind (prefix ++ back) (min (first left + w.lines) f.line)) (broken_of (key_of_sending x) left)
    at_left left b gs e c rise some stands lines cuts =
        let later = (f ∷ g) ∷ cut (within w) after in
        let rise' : Rise first 1 (b ++ (left ∷ later)) = subst (Rise first 1) e rise in
        let some' : IsGroup left = (all-back IsGroup b (left ∷ later) (subst (AllByRecursion IsGroup) e some)).0 in
        let stands' : AllByRecursion (StandsAt (frames kind (prefix ++ back)) (key_of_sending x)) left = (all-back (AllByRecursion (StandsAt (frames kind (prefix ++ back)) (key_of_sending x))) b (left ∷ later) (subst (AllByRecursion (AllByRecursion (StandsAt (frames kind (prefix ++ back)) (key_of_sending x)))) e stands)).0 in
        let lines' : AllByRecursion (λ (i : Frame). 1 ≤ i.line) left = (all-back (AllByRecursion (λ (i : Frame). 1 ≤ i.line)) b (left ∷ later) (subst (AllByRecursion (AllByRecursion (λ (i : Frame). 1 ≤ i.line))) e lines)).0 in
        let from : 1 ≤ first left = first_above 1 left some' lines' in
        let before : first left + 1 ≤ f.line = (rise-rest first 1 b (left ∷ (f ∷ g) ∷ cut (within w) after) rise').1.0 in
        let up_to : first left < 1 + min (first left + w.lines) f.line = omega (arith, before) in
        given_among (broken_begun w (frames kind (prefix ++ back)) (min (first left + w.lines) f.line)) (broken_of (key_of_sending x) left) (first left) 1 (min (first left + w.lines) f.line) from up_to
        (broken_where w (frames kind (prefix ++ back)) (key_of_sending x) left (min (first left + w.lines) f.line) some' stands'
        (ap (broken_among w (first left) (min (first left + w.lines) f.line)) (cuts ∙ e) ∙ broken_among-at w 1 b left (f ∷ g) (cut (within w) after) rise' c))

    by_open : (o : Option (List Frame)) → last_or None (cut (within w) (of_key (key_of_sending x) (frames kind prefix))) ≡ o
        → Rise first 1 (cut (within w) (of_key (key_of_sending x) (frames kind prefix)) ++ ((f ∷ g) ∷ cut (within w) after))
        → AllByRecursion IsGroup (cut (within w) (of_key (key_of_sending x) (frames kind prefix)) ++ ((f ∷ g) ∷ cut (within w) after))
        → AllByRecursion (AllByRecursion (StandsAt (frames kind (prefix ++ back)) (key_of_sending x))) (cut (within w) (of_key (key_of_sending x) (frames kind prefix)) ++ ((f ∷ g) ∷ cut (within w) after))
        → AllByRecursion (AllByRecursion (λ (i : Frame). 1 ≤ i.line)) (cut (within w) (of_key (key_of_sending x) (frames kind prefix)) ++ ((f ∷ g) ∷ cut (within w) after))
        → cut (within w) (of_key (key_of_sending x) (frames kind (prefix ++ back))) ≡ cut (within w) (of_key (key_of_sending x) (frames kind prefix)) ++ ((f ∷ g) ∷ cut (within w) after)
        → told (option_and_then incomplete o)
    by_open o is rise some stands lines cuts = grind (arith, told, ends_with, at_left, append_assoc)

pub heals : (w : Window) (kind : ℕ → Option Kind) (prefix back : List Entry) (x : Sending) (group after : List Frame) → ComesNext w kind prefix back x group after → LeavesZero w kind prefix x → Heals w kind prefix back x group
heals w kind prefix back x group after comes has = heals_by w kind prefix back x group after comes (by (open_of (within w) (key_of_sending x) (frames kind prefix)) has)
  where
    by : (o : Option (List Frame)) → IfSome o (λ last. length prefix < first last + w.lines → has_number 0 last ≡ true) → IfSome o (λ last. w.in_order ≡ false → length prefix < first last + w.lines → has_number 0 last ≡ true)
    by o h = grind arith

-- with a window in order, the open group may be any
pub heals_in_order : (w : Window) (kind : ℕ → Option Kind) (prefix back : List Entry) (x : Sending) (group after : List Frame) → w.in_order ≡ true → ComesNext w kind prefix back x group after → Heals w kind prefix back x group
heals_in_order w kind prefix back x group after order comes = heals_by w kind prefix back x group after comes (by (open_of (within w) (key_of_sending x) (frames kind prefix)))
  where
    by : (o : Option (List Frame)) → IfSome o (λ last. w.in_order ≡ false → length prefix < first last + w.lines → has_number 0 last ≡ true)
    by o = grind arith
