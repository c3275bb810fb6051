-- Runs that begin at any line: with more lines before, and in order after a window of lines.
use Rattle.std.proofs.Common.{◌≡◌, ◌<◌, ◌≤◌, ◌+◌, ◌==◌, ℕ, Bool, true, cond, not, List, [], ◌∷◌, ◌++◌, length, map, refl, sym, ap, ◌∙◌, subst, arith, Option, Some, None, IfSome, option_map, filter, filter_map, is_some, reverse, ◌&&◌, ◌||◌, false, option_to_list, nat_lt, nat_le}
use Rattle.std.proofs.Math.Bool.{or-false}
use Rattle.std.proofs.lemmas.Bool.{lt-ltb, ne_eqb, le-ltb, ltb-true, or_from, and_right, false≢true}
use Rattle.std.proofs.lemmas.List.{map-append, length-map}
use Rattle.std.proofs.lemmas.List.Elements.{filter-append}
use Rattle.std.proofs.lemmas.Simd.{map-map}
use Rattle.std.specs.List.{AllByRecursion}
use Rattle.n2k_wire.specs.Packet.{PacketParts}
use Rattle.n2k_wire.specs.declared.entry.BadCause.{BadCause}
use Rattle.n2k_wire.specs.declared.entry.Entry.{Entry}
use Rattle.n2k_table.specs.declared.definition.Kind.{Kind}
use Rattle.n2k_join.specs.AnyLine.{CanContinue, moved_group, moved_broken, moved_given, IsMoved, LeadsMoved, StepsMoved, AreEnough, state_from}
use Rattle.n2k_join.specs.Frames.{Frame, same_key, frame_in, fast_frame, Key, most_frames}
use Rattle.n2k_join.specs.Groups.{carried, complete, has_from, has_twice, has_number}
use Rattle.n2k_join.specs.Inner.Stored.{rejects, taken, opened, started, of_the_key, groups_after, message_if, gained, lost, gives_by, leaves_by, with_frame}
use Rattle.n2k_join.specs.Messages.{alone, as_broken, cause_in}
use Rattle.n2k_join.specs.Open.{Group, pieces_of, is_waiting, waiting, ended, group_of, open_groups}
use Rattle.n2k_join.specs.State.{State, Given, held_frame, held_of, next_line, overdue, step_given, step_after, one_if, IsOpen, state, AreApart, AreOpen}
use Rattle.n2k_join.specs.Window.{Window}
use Rattle.n2k_join.specs.declared.counts.Counts.{Counts}
use Rattle.n2k_join.proofs.Carried.{complete-same, data_of-same, pieces_of-same, has_number-append, complete-without_zero}
use Rattle.n2k_join.proofs.Healing.{some-from}
use Rattle.n2k_join.proofs.Held.{first-held, length-held, carried-kept}
use Rattle.n2k_join.proofs.JoinLemmas.{fine-held, fine-push, with_frame-group_of, rejects-missing}
use Rattle.n2k_join.proofs.Keeping.{step-groups_open}
use Rattle.n2k_join.proofs.Keys.{same_key-true}
use Rattle.n2k_join.proofs.LineLemmas.{all-steps}
use Rattle.n2k_join.proofs.Logs.{frame_in-number}
use Rattle.n2k_join.proofs.Rising.{all-map, all_with, find-all, find-none}
use Rattle.n2k_join.proofs.Steps.{kept, kept-open, kept-wait}
use Rattle.n2k_join.proofs.Windows.{all-filter, filter-passed, all-passed}

-- after one more line the open groups are valid again
step-continues : (kind : ℕ → Option Kind) (s : State) (e : Entry) → CanContinue s → CanContinue (step_after kind s e)
unfolding step_after
step-continues kind s e is = record { some = is.some; groups = step-groups_open kind s e is.some is.groups }

module _ (d : ℕ) where
  abbrev moved : Frame → Frame
  moved x = record x { line = x.line + d }

  frame_in-moved : (kind : ℕ → Option Kind) (n : ℕ) (e : Entry) → frame_in kind (n + d) e ≡ option_map moved (frame_in kind n e)
  unfolding fast_frame
  frame_in-moved kind n e = grind arith

  carry : (g : List Frame) → carried (map moved g) ≡ carried g
  carry [] = refl
  carry (f ∷ g) = λ i n. cond (f.number == n) (Some f.bytes) (carry g i n)

  from-moved : (n : ℕ) (g : List Frame) → has_from n (map moved g) ≡ has_from n g
  from-moved n [] = refl
  from-moved n (f ∷ g) = ap (λ b. nat_le n f.number || b) (from-moved n g)

  twice-moved : (g : List Frame) → has_twice (map moved g) ≡ has_twice g
  twice-moved [] = refl
  twice-moved (f ∷ g) = λ i. is_some (carry g i f.number) || twice-moved g i

  complete-moved : (g : List Frame) → complete (map moved g) ≡ complete g
  complete-moved g = complete-same (map moved g) g (carry g) (twice-moved g)

  message-moved : (x : Frame) (g : List Frame) → message_if (moved x) (map moved g) ≡ message_if x g
  message-moved x g = grind (arith, complete-moved g, data_of-same (map moved g) g (carry g))

  held-moved : (g : Group) → held_of (moved_group d g) ≡ map moved (held_of g)
  held-moved g = sym (map-map moved (held_frame g) (reverse g.pieces))

  joined-moved : (x : Frame) (g : Group) → held_of (moved_group d g) ++ moved x ∷ [] ≡ map moved (held_of g ++ x ∷ [])
  joined-moved x g = ap (λ h. h ++ moved x ∷ []) (held-moved g) ∙ sym (map-append moved (held_of g) (x ∷ []))

  module _ (order : Bool) (x : Frame) where
    rejects-moved : (g : Group) → rejects order x.number (moved_group d g) ≡ rejects order x.number g
    rejects-moved g = ap (λ h. cond order (has_from x.number h) (is_some (carried h x.number))) (held-moved g) ∙ (λ i. cond order (from-moved x.number (held_of g) i) (is_some (carry (held_of g) i x.number)))

    taken-moved : (gs : List Group) → filter_map (taken order (moved x)) (map (moved_group d) gs) ≡ map (moved_group d) (filter_map (taken order x) gs)
    taken-moved [] = refl
    taken-moved (g ∷ gs) = grind (arith, taken-moved gs, rejects-moved g, ap complete (joined-moved x g), complete-moved (held_of g ++ x ∷ []), ap pieces_of (joined-moved x g), pieces_of-same (map moved (held_of g ++ x ∷ [])) (held_of g ++ x ∷ []) (carry (held_of g ++ x ∷ [])))

    opened-moved : (p : Option Group) → opened order (moved x) (option_map (moved_group d) p) ≡ option_map (moved_group d) (opened order x p)
    opened-moved p = grind (arith, rejects-moved, complete-moved (x ∷ []), pieces_of-same (moved x ∷ []) (x ∷ []) (carry (x ∷ [])))

    gained-moved : (p : Option Group) → gained order (moved x) (option_map (moved_group d) p) ≡ gained order x p
    gained-moved None = message-moved x (x ∷ [])
    gained-moved (Some g) = grind (arith, rejects-moved g, message-moved x (x ∷ []), ap (message_if (moved x)) (joined-moved x g), message-moved x (held_of g ++ x ∷ []))

    lost-moved : (p : Option Group) → IfSome p IsOpen → lost order (moved x) (option_map (moved_group d) p) ≡ option_map (moved_broken d) (lost order x p)
    lost-moved p is = grind (arith, rejects-moved, first-held)

    key-moved : (gs : List Group) → of_the_key x.key (map (moved_group d) gs) ≡ option_map (moved_group d) (of_the_key x.key gs)
    key-moved [] = refl
    key-moved (g ∷ gs) = grind (arith, key-moved gs)

  leaves-moved : (order : Bool) (gs : List Group) (o : Option Frame) → leaves_by order (map (moved_group d) gs) (option_map moved o) ≡ map (moved_group d) (leaves_by order gs o)
  unfolding groups_after
  leaves-moved order gs None = refl
  leaves-moved order gs (Some x) = grind (arith, taken-moved order x gs, key-moved order x gs, opened-moved order x (of_the_key x.key gs), map-append)

  gives-moved : (order : Bool) (own : Option PacketParts) (cause : Option BadCause) (gs : List Group) (o : Option Frame) → AllByRecursion IsOpen gs → gives_by order own cause (map (moved_group d) gs) (option_map moved o) ≡ moved_given d (gives_by order own cause gs o)
  gives-moved order own cause gs None are = refl
  gives-moved order own cause gs (Some x) are =
      let at : IfSome (of_the_key x.key gs) IsOpen = grind (arith, find-all IsOpen (λ (g : Group). same_key x.key g.key) gs) in
      grind (arith, key-moved order x gs, gained-moved order x (of_the_key x.key gs), lost-moved order x (of_the_key x.key gs) at)

  filter-moved : (p q : Group → Bool) → ((g : Group) → p (moved_group d g) ≡ q g) → (gs : List Group) → filter p (map (moved_group d) gs) ≡ map (moved_group d) (filter q gs)
  filter-moved p q same [] = refl
  filter-moved p q same (g ∷ gs) = grind (arith, same g, filter-moved p q same gs)

-- two states of one window
module _ (d : ℕ) (kind : ℕ → Option Kind) (s : State) (id : List ℕ) (c : Counts) (e : Entry) where
  abbrev t : State
  t = record { id = id; window = s.window; counts = c; groups = map (moved_group d) s.groups }

  module _ (is : CanContinue s) (also : CanContinue t) (lines : c.lines ≡ s.counts.lines + d) where
    waits-moved : (g : Group) → is_waiting s.window (next_line t) (moved_group d g) ≡ is_waiting s.window (next_line s) g
    waits-moved g = grind (arith, lines)

    kept-moved : kept t ≡ map (moved_group d) (kept s)
    unfolding waiting
    kept-moved = filter-moved d (is_waiting s.window (next_line t)) (is_waiting s.window (next_line s)) waits-moved s.groups

    overdue-moved : map as_broken (overdue t) ≡ map (moved_broken d) (map as_broken (overdue s))
    unfolding ended
    overdue-moved =
        ap (map as_broken) (filter-moved d (λ g. not (is_waiting s.window (next_line t) g)) (λ g. not (is_waiting s.window (next_line s) g)) (λ g. ap not (waits-moved g)) s.groups)
        ∙ map-map as_broken (moved_group d) (overdue s) ∙ sym (map-map (moved_broken d) as_broken (overdue s))

    frame-moved : frame_in kind (next_line t) e ≡ option_map (moved d) (frame_in kind (next_line s) e)
    frame-moved = let at : next_line t ≡ next_line s + d = omega (arith, lines) in ap (λ n. frame_in kind n e) at ∙ frame_in-moved d kind (next_line s) e

    given-moved : step_given kind t e ≡ moved_given d (step_given kind s e)
    given-moved =
        let o = frame_in kind (next_line s) e in
        let x = gives_by s.window.in_order (alone kind e) (cause_in kind e) (kept s) o in
        let gives = (λ i. gives_by s.window.in_order (alone kind e) (cause_in kind e) (kept-moved i) (frame-moved i)) ∙ gives-moved d s.window.in_order (alone kind e) (cause_in kind e) (kept s) o (kept-open kind s e is.some is.groups).each in
        (all-steps kind t e also.some also.groups).given
        ∙ (λ i. record { message = (gives i).message; cause = (gives i).cause; broken = overdue-moved i ++ (gives i).broken })
        ∙ (λ i. record { message = x.message; cause = x.cause; broken = sym (map-append (moved_broken d) (map as_broken (overdue s)) x.broken) i })
        ∙ ap (moved_given d) (sym (all-steps kind s e is.some is.groups).given)

    groups-moved : (step_after kind t e).groups ≡ map (moved_group d) (step_after kind s e).groups
    groups-moved =
        ap (λ (u : State). u.groups) (all-steps kind t e also.some also.groups).after
        ∙ (λ i. leaves_by s.window.in_order (kept-moved i) (frame-moved i)) ∙ leaves-moved d s.window.in_order (kept s) (frame_in kind (next_line s) e)
        ∙ ap (λ (u : State). map (moved_group d) u.groups) (sym (all-steps kind s e is.some is.groups).after)

    steps-moved : StepsMoved d kind s t e
    unfolding step_after
    steps-moved =
        let leads : LeadsMoved d s (step_after kind s e) t (step_after kind t e) = record { moved = record { window = refl; lines = omega (arith, lines); groups = groups-moved }; messages = omega (arith, ap (λ (g : Given). one_if (is_some g.message)) given-moved); bad = omega (arith, ap (λ (g : Given). one_if (is_some g.cause)) given-moved); unknown = omega arith; broken = omega (arith, ap (λ (g : Given). length g.broken) given-moved ∙ length-map (step_given kind s e).broken (moved_broken d)) } in
        record { given = given-moved; leads = leads; continues = step-continues kind s e is; also_continues = step-continues kind t e also }

pub moved_states : (d : ℕ) (kind : ℕ → Option Kind) (s t : State) (e : Entry) → CanContinue s → CanContinue t → IsMoved d s t → StepsMoved d kind s t e
moved_states d kind s t e is also to =
    let same : record { id = t.id; window = s.window; counts = t.counts; groups = map (moved_group d) s.groups } ≡ t = λ i. record { id = t.id; window = sym to.window i; counts = t.counts; groups = sym to.groups i } in
    subst (λ u. StepsMoved d kind s u e) same (steps-moved d kind s t.id t.counts e is (subst CanContinue (sym same) also) to.lines)

filter-swap : {X : Type 0} (p q : X → Bool) (xs : List X) → filter p (filter q xs) ≡ filter q (filter p xs)
filter-swap p q [] = refl
filter-swap p q (x ∷ xs) = grind (arith, filter-swap p q xs)

-- A function that treats an open group that fails a test as no group finds the same value among the groups that pass.
key-filter : {X : Type 0} (k : Key) (t : Group → Bool) (P : Group → Type 0) (F : Option Group → X) → ((g : Group) → P g → t g ≡ false → F (Some g) ≡ F None)
    → (gs : List Group) → AllByRecursion P gs → AreApart gs → F (of_the_key k gs) ≡ F (of_the_key k (filter t gs))
key-filter k t P F as_none [] each apart = refl
key-filter k t P F as_none (g ∷ gs) each apart = grind (arith, key-filter k t P F as_none gs each.1 apart.1, all-map, same_key-true, find-none, all-filter)

-- a group that began after line `a` and has frame 0: in order, only such a group can still become a message
abbrev counts_from : ℕ → Group → Bool
counts_from a g = nat_lt a g.first && has_number 0 (held_of g)

abbrev counted : ℕ → List Group → List Group
counted a gs = filter (counts_from a) gs

-- no group counts that began before
none-counts : (a : ℕ) (gs : List Group) → AllByRecursion (λ (g : Group). g.first ≤ a) gs → filter (counts_from a) gs ≡ []
none-counts a [] all = refl
none-counts a (g ∷ gs) all = ap (λ b. cond (b && has_number 0 (held_of g)) (g ∷ filter (counts_from a) gs) (filter (counts_from a) gs)) (le-ltb a g.first all.0) ∙ none-counts a gs all.1

module _ (a : ℕ) (x : Frame) (small : x.number < most_frames) where
  -- frame 0 ends each open group
  zero-ends : (g : Group) → IsOpen g → x.number ≡ 0 → has_from x.number (held_of g) ≡ true
  zero-ends g is zeroth = ap (λ n. has_from n (held_of g)) zeroth ∙ some-from (held_of g) (omega (arith, length-held g g.pieces, is.nonempty))

  -- a group that takes a frame counts if it did
  counts-kept : (g : Group) → IsOpen g → has_from x.number (held_of g) ≡ false → counts_from a (with_frame g x) ≡ counts_from a g
  counts-kept g is fits =
      let other : x.number ≡ 0 → ⊥ = λ zeroth. false≢true (sym fits ∙ zero-ends g is zeroth) in
      ap (λ (h : Group). nat_lt a g.first && has_number 0 (held_of h)) (with_frame-group_of g x is)
      ∙ ap (λ (c : ℕ → Option (List ℕ)). nat_lt a g.first && is_some (c 0)) (carried-kept g.key (held_of g ++ x ∷ []) (fine-push (held_of g) x (fine-held g is) (rejects-missing true x.number g fits) small).numbers)
      ∙ ap (λ b. nat_lt a g.first && b) (has_number-append (held_of g) (x ∷ []) 0 ∙ ap (λ b. has_number 0 (held_of g) || is_some (cond b (Some x.bytes) None)) (ne_eqb x.number 0 other) ∙ or-false (has_number 0 (held_of g)))

  -- without frame 0 the frame begins no group that counts, and completes none that has no frame 0
  zero-push : (g : List Frame) → (x.number ≡ 0 → ⊥) → has_number 0 g ≡ false → complete (g ++ x ∷ []) ≡ false
  zero-push g other none = complete-without_zero (g ++ x ∷ []) (has_number-append g (x ∷ []) 0 ∙ or_from _ _ none (ap (λ b. is_some (cond b (Some x.bytes) None)) (ne_eqb x.number 0 other)))

  begun-lost : (x.number ≡ 0 → ⊥) → counts_from a (group_of x.key (x ∷ [])) ≡ false
  begun-lost other = and_right (nat_lt a x.line) _ (ap (λ (c : ℕ → Option (List ℕ)). is_some (c 0)) (carried-kept x.key (x ∷ []) (small, tt)) ∙ ap (λ b. is_some (cond b (Some x.bytes) None)) (ne_eqb x.number 0 other))

  opened-counted : (gs : List Group) → AllByRecursion IsOpen gs → counted a (option_to_list (opened true x (of_the_key x.key gs))) ≡ counted a (option_to_list (started x))
  opened-counted [] each = refl
  opened-counted (g ∷ gs) each = grind (arith, opened-counted gs each.1, zero-ends g each.0, begun-lost)

  taken-counted : (gs : List Group) → AllByRecursion IsOpen gs → counted a (filter_map (taken true x) gs) ≡ counted a (filter_map (taken true x) (counted a gs))
  taken-counted [] each = refl
  taken-counted (g ∷ gs) each = grind (arith, taken-counted gs each.1, counts-kept g each.0)

  after-counted : (gs : List Group) → AllByRecursion IsOpen gs → counted a (groups_after true gs x) ≡ counted a (groups_after true (counted a gs) x)
  unfolding groups_after
  after-counted gs each = grind (arith, filter-append, taken-counted gs each, opened-counted gs each, opened-counted (counted a gs) (all-filter IsOpen (counts_from a) gs each))

  gained-lost : (g : Group) → IsOpen g × (a < g.first) → counts_from a g ≡ false → gained true x (Some g) ≡ gained true x None
  gained-lost g is lost =
      let none : has_number 0 (held_of g) ≡ false = ap (λ b. b && has_number 0 (held_of g)) (sym (lt-ltb a g.first is.1)) ∙ lost in
      grind (arith, zero-ends g is.0, λ (other : x.number ≡ 0 → ⊥). zero-push (held_of g) other none, λ (other : x.number ≡ 0 → ⊥). zero-push [] other refl)

-- a state of these parts
abbrev of_parts : Window → List ℕ → Counts → List Group → State
of_parts w id c gs = record { id = id; window = w; counts = c; groups = gs }

none-open : {n : ℕ} → AreOpen n []
none-open = record { each = tt; rise = tt; begun = tt; apart = tt }

module _ (kind : ℕ → Option Kind) (lines : ℕ) (some : 0 < lines) where
  abbrev w : Window
  w = record { lines = lines; in_order = true }

  -- what an entry after `n` lines gives, and the groups that it leaves, made of the open groups
  abbrev gives : Entry → ℕ → List Group → Option PacketParts
  gives e n gs = (gives_by true (alone kind e) (cause_in kind e) (waiting w (n + 1) gs) (frame_in kind (n + 1) e)).message

  abbrev leaves : Entry → ℕ → List Group → List Group
  leaves e n gs = leaves_by true (waiting w (n + 1) gs) (frame_in kind (n + 1) e)

  module _ (a : ℕ) where
    module _ (id : List ℕ) (c : Counts) (gs : List Group) (e : Entry) (opens : AreOpen c.lines gs) where
      abbrev s : State
      s = of_parts w id c gs

      is : CanContinue s
      is = record { some = some; groups = opens }

      swap : counted a (kept s) ≡ waiting w (c.lines + 1) (counted a gs)
      unfolding waiting
      swap = filter-swap (counts_from a) (is_waiting w (c.lines + 1)) gs

      -- both are made of the groups that count, the message if a window of lines came
      groups-counted : counted a (step_after kind s e).groups ≡ counted a (leaves e c.lines (counted a gs))
      groups-counted = ap (λ (u : State). counted a u.groups) (all-steps kind s e some opens).after ∙ by (frame_in kind (next_line s) e) refl ∙ (λ i. counted a (leaves_by true (swap i) (frame_in kind (next_line s) e)))
        where
          by : (o : Option Frame) → frame_in kind (next_line s) e ≡ o → counted a (leaves_by true (kept s) o) ≡ counted a (leaves_by true (counted a (kept s)) o)
          by None none = sym (filter-passed (counts_from a) (counted a (kept s)) (all-passed (counts_from a) (kept s)))
          by (Some x) found = after-counted a x (frame_in-number kind (next_line s) e x found) (kept s) (kept-open kind s e some opens).each

      message-counted : a + lines ≤ c.lines + 1 → (step_given kind s e).message ≡ gives e c.lines (counted a gs)
      message-counted past =
          ap (λ (g : Given). g.message) (all-steps kind s e some opens).given ∙ by (frame_in kind (next_line s) e) refl
          ∙ (λ i. (gives_by true (alone kind e) (cause_in kind e) (swap i) (frame_in kind (next_line s) e)).message)
        where
          late : AllByRecursion (λ (g : Group). IsOpen g × (a < g.first)) (kept s)
          late = all_with IsOpen (λ (g : Group). is_waiting w (next_line s) g ≡ true) (λ (g : Group). IsOpen g × (a < g.first)) (λ g p e. (p, omega (arith, past, ltb-true (next_line s) (g.first + lines) e))) (kept s) (kept-open kind s e some opens).each (kept-wait kind s e some opens)

          by : (o : Option Frame) → frame_in kind (next_line s) e ≡ o → (gives_by true (alone kind e) (cause_in kind e) (kept s) o).message ≡ (gives_by true (alone kind e) (cause_in kind e) (counted a (kept s)) o).message
          by None none = refl
          by (Some x) found = key-filter x.key (counts_from a) (λ (g : Group). IsOpen g × (a < g.first)) (gained true x) (gained-lost a x (frame_in-number kind (next_line s) e x found)) (kept s) late (kept-open kind s e some opens).apart

    -- two runs after as many lines, with the same groups that count
    same-messages : (es : List Entry) (e : Entry) (id id' : List ℕ) (c c' : Counts) (gs hs : List Group) → AreOpen c.lines gs → AreOpen c'.lines hs → c.lines ≡ c'.lines → counted a gs ≡ counted a hs → a + lines ≤ c.lines + length es + 1
        → (step_given kind (state_from kind (of_parts w id c gs) es) e).message ≡ (step_given kind (state_from kind (of_parts w id' c' hs) es) e).message
    unfolding step_after
    same-messages [] e id id' c c' gs hs opens opens' n same past =
        message-counted id c gs e opens (omega (arith, past)) ∙ (λ i. gives e (n i) (same i)) ∙ sym (message-counted id' c' hs e opens' (omega (arith, past, n)))
    same-messages (f ∷ es) e id id' c c' gs hs opens opens' n same past =
        same-messages es e id id' (step_after kind (of_parts w id c gs) f).counts (step_after kind (of_parts w id' c' hs) f).counts (step_after kind (of_parts w id c gs) f).groups (step_after kind (of_parts w id' c' hs) f).groups (step-continues kind (of_parts w id c gs) f (is id c gs f opens)).groups (step-continues kind (of_parts w id' c' hs) f (is id' c' hs f opens')).groups
        (omega (arith, n)) (groups-counted id c gs f opens ∙ (λ i. counted a (leaves f (n i) (same i))) ∙ sym (groups-counted id' c' hs f opens')) (omega (arith, past))

  -- runs from states without open groups give the same messages
  none-moved : (d : ℕ) (es : List Entry) (e : Entry) (s t : State) → CanContinue s → CanContinue t → IsMoved d s t → (step_given kind (state_from kind s es) e).message ≡ (step_given kind (state_from kind t es) e).message
  none-moved d [] e s t is also to = sym (ap (λ (g : Given). g.message) (moved_states d kind s t e is also to).given)
  none-moved d (f ∷ es) e s t is also to = let next = moved_states d kind s t f is also to in none-moved d es e (step_after kind s f) (step_after kind t f) next.continues next.also_continues next.leads.moved

  -- after a window of lines, a run goes on as one that began with no lines
  forgets : (id : List ℕ) (c : Counts) (gs : List Group) → AreOpen c.lines gs → (last : List Entry) (e : Entry) → lines ≤ length last + 1
      → (step_given kind (state_from kind (of_parts w id c gs) last) e).message ≡ (step_given kind (state_from kind (state [] w kind []) last) e).message
  unfolding open_groups waiting
  forgets id c gs opens last e long =
      same-messages c.lines last e id [] c c gs [] opens none-open refl (none-counts c.lines gs opens.begun) (omega (arith, long))
      ∙ sym (none-moved c.lines last e (state [] w kind []) (of_parts w [] c []) (record { some = some; groups = none-open }) (record { some = some; groups = none-open }) (record { window = refl; lines = omega arith; groups = refl }))

pub from_any_line : (kind : ℕ → Option Kind) (s t : State) (last : List Entry) (e : Entry) → CanContinue s → CanContinue t → s.window ≡ t.window → AreEnough s.window last
    → (step_given kind (state_from kind s last) e).message ≡ (step_given kind (state_from kind t last) e).message
from_any_line kind s t last e is also window enough =
    let order : s.window ≡ record { lines = s.window.lines; in_order = true } = λ i. record { lines = s.window.lines; in_order = enough.in_order i } in
    ap (λ v. (step_given kind (state_from kind (of_parts v s.id s.counts s.groups) last) e).message) order
    ∙ forgets kind s.window.lines is.some s.id s.counts s.groups is.groups last e enough.long ∙ sym (forgets kind s.window.lines is.some t.id t.counts t.groups also.groups last e enough.long)
    ∙ ap (λ v. (step_given kind (state_from kind (of_parts v t.id t.counts t.groups) last) e).message) (sym order ∙ window)
