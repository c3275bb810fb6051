-- The frames held of open groups have these groups open.
use Rattle.std.proofs.Common.{◌≡◌, ◌==◌, ◌≤◌, ◌<◌, ◌+◌, ℕ, true, false, cond, List, [], ◌∷◌, ◌++◌, length, reverse, refl, sym, ap, ◌∙◌, subst, arith, Option, Some, None, option_map, option_and_then, append-nil}
use Rattle.std.specs.Option.{option_or}
use Rattle.std.specs.List.{AllByRecursion}
use Rattle.std.proofs.lemmas.List.Folds.{find-append}
use Rattle.std.proofs.lemmas.Bool.{eqb-true, eq-eqb, ne_eqb, eqb-false, false_from_ne_true}
use Rattle.std.proofs.lemmas.Option.{same_Some}
use Rattle.n2k_join.specs.Frames.{Key, same_key, Frame, of_key, most_frames}
use Rattle.n2k_join.specs.Groups.{EndTest, incomplete, open_of}
use Rattle.n2k_join.specs.Open.{Piece, Group, group_of, begun_at, open_groups}
use Rattle.n2k_join.specs.State.{held_frame, held_of, held, Rise, IsOpen, AreApart, AreOpen}
use Rattle.n2k_join.proofs.Cuts.{IsEnding, so_far}
use Rattle.n2k_join.proofs.Held.{AreNumbered, pieces_of-rise, pieces_of-numbers, pieces_of-some, group_of-held, so_far-held, all-held, all-reverse, all-any, length-held}
use Rattle.n2k_join.proofs.Keys.{same_key-true, same_key-refl, same_key-sym, of_key-append, of_key-all, of_key-none}
use Rattle.n2k_join.proofs.Opened.{key_at, IsLog, IsFine, open_at, begun_at-key, begun_at-is, open_of-so_far, complete-kept, open_groups-each, begun_group, begun_all}
use Rattle.n2k_join.proofs.Rising.{find-passes, find-all, find-none, look, look-all, look-range, rise-range, rise-least, all-range, all-map, all-zip, all-flat_map}

abbrev pub first_of : Group → ℕ
first_of o = o.first

-- a property of each held frame of a group
pub held_of-all : (P : Frame → Type 0) (Q : Piece → Type 0) (o : Group) → ((p : Piece) → Q p → P (held_frame o p)) → AllByRecursion Q o.pieces → AllByRecursion P (held_of o)
held_of-all P Q o each all = all-held P Q o each (reverse o.pieces) (all-reverse Q o.pieces all)

pub held_of-any : (P : Frame → Type 0) (o : Group) → ((p : Piece) → P (held_frame o p)) → AllByRecursion P (held_of o)
held_of-any P o each = held_of-all P (λ _. Unit {0}) o (λ p _. each p) (all-any (λ _. Unit {0}) (λ _. tt) o.pieces)

-- frames of one line and key
key_at-one : (i l : ℕ) (k : Key) (fs : List Frame) → AllByRecursion (λ (f : Frame). (f.line ≡ l) × (f.key ≡ k)) fs → 0 < length fs → key_at i fs ≡ cond (l == i) (Some k) None
key_at-one i l k [] all some = absurd (omega (arith, some))
key_at-one i l k (f ∷ fs) all some = grind (arith, eqb-false, find-none, all-map, ne_eqb)

key_at-append : (i : ℕ) (fs gs : List Frame) → key_at i (fs ++ gs) ≡ option_or (key_at i fs) (key_at i gs)
key_at-append i fs gs = grind (arith, find-append)

pub key_at-held : (i : ℕ) (gs : List Group) → AllByRecursion IsOpen gs → key_at i (held gs) ≡ option_map (λ (o : Group). o.key) (look first_of gs i)
key_at-held i [] all = refl
key_at-held i (g ∷ gs) all = grind (arith, key_at-held i gs all.1, key_at-append i (held_of g) (held gs), key_at-one i g.first g.key (held_of g) (held_of-any (λ (f : Frame). (f.line ≡ g.first) × (f.key ≡ g.key)) g (λ p. (refl, refl))) (omega (arith, all.0.nonempty, length-held g g.pieces)))

-- the held frames of groups are a log
pub held-log : (n : ℕ) (gs : List Group) → AreOpen n gs → IsLog n (held gs)
held-log n gs are = record {
  lines = all-flat_map _ held_of gs (all-map _ _ gs (λ g h. held_of-any (λ (f : Frame). (1 ≤ f.line) × (f.line ≤ n)) g (λ p. h)) (all-zip (λ (g : Group). 1 ≤ g.first) (λ (g : Group). g.first ≤ n) gs (rise-least first_of 1 gs are.rise) are.begun));
  numbers = all-flat_map _ held_of gs (all-map _ _ gs (λ g h. held_of-all (λ (f : Frame). f.number < most_frames) (λ (p : Piece). p.number < most_frames) g (λ p l. l) h.numbers) are.each);
  keys = all-flat_map _ held_of gs (all-map _ _ gs (λ g h. held_of-any (λ (f : Frame). key_at f.line (held gs) ≡ Some f.key) g (λ p. key_at-held g.first gs are.each ∙ ap (option_map (λ (o : Group). o.key)) h)) (look-all first_of 1 gs are.rise));
}

-- the frames held of groups of other keys
pub held-other : (k : Key) (gs : List Group) → AllByRecursion (λ (g : Group). same_key k g.key ≡ false) gs → of_key k (held gs) ≡ []
held-other k gs all = of_key-none k (held gs) (all-flat_map _ held_of gs (all-map _ _ gs (λ g h. held_of-any (λ (f : Frame). same_key k f.key ≡ false) g (λ p. h)) all))

held-same : (g : Group) → of_key g.key (held_of g) ≡ held_of g
held-same g = of_key-all g.key (held_of g) (held_of-any (λ (f : Frame). same_key g.key f.key ≡ true) g (λ p. same_key-refl g.key))

-- the held frames of a group's key are its own
pub held-own : (gs : List Group) → AreApart gs → AllByRecursion (λ (g : Group). of_key g.key (held gs) ≡ held_of g) gs
held-own [] apart = tt
held-own (g ∷ gs) apart = (
  of_key-append g.key (held_of g) (held gs) ∙ ap (λ t. t ++ of_key g.key (held gs)) (held-same g) ∙ ap (λ t. held_of g ++ t) (held-other g.key gs apart.0) ∙ append-nil (held_of g),
  all-map _ (λ (h : Group). of_key h.key (held (g ∷ gs)) ≡ held_of h) gs
      (λ h e. of_key-append h.key (held_of g) (held gs) ∙ ap (λ t. t ++ of_key h.key (held gs)) (of_key-none h.key (held_of g) (held_of-any (λ (f : Frame). same_key h.key f.key ≡ false) g (λ p. same_key-sym h.key g.key ∙ e.0))) ∙ e.1)
      (all-zip (λ (h : Group). same_key g.key h.key ≡ false) (λ (h : Group). of_key h.key (held gs) ≡ held_of h) gs apart.0 (held-own gs apart.1)),
)

module _ (ends : EndTest) (is_ending : IsEnding ends) where
  -- each of the groups is the open one of its key
  pub open_of-held : (n : ℕ) (gs : List Group) → AreOpen n gs → AllByRecursion (λ (g : Group). open_of ends g.key (held gs) ≡ Some (held_of g)) gs
  open_of-held n gs are =
      all-map _ (λ (g : Group). open_of ends g.key (held gs) ≡ Some (held_of g)) gs
      (λ g h. open_of-so_far ends is_ending g.key (held gs) ∙ ap (λ t. option_and_then incomplete (so_far ends t)) h.1 ∙ ap (option_and_then incomplete) (so_far-held ends is_ending g h.0) ∙ ap (λ b. cond b None (Some (held_of g))) h.0.incomplete)
      (all-zip IsOpen (λ (g : Group). of_key g.key (held gs) ≡ held_of g) gs are.each (held-own gs are.apart))

  begun_at-held : (n i : ℕ) (gs : List Group) → AreOpen n gs → begun_at ends (held gs) i ≡ look first_of gs i
  begun_at-held n i gs are =
      begun_at-key ends is_ending (held gs) i ∙ ap (option_and_then (λ (k : Key). open_at ends is_ending k (held gs) i)) (key_at-held i gs are.each) ∙ by (look first_of gs i) refl
    where
      by : (o : Option Group) → look first_of gs i ≡ o → option_and_then (λ (k : Key). open_at ends is_ending k (held gs) i) (option_map (λ (o : Group). o.key) o) ≡ o
      by o e = grind (arith, eqb-true, find-passes, find-all, open_of-held, eq-eqb, group_of-held)

  -- the held frames of groups have these groups open
  pub open_groups-held : (n : ℕ) (gs : List Group) → AreOpen n gs → open_groups ends n (held gs) ≡ gs
  unfolding open_groups
  open_groups-held n gs are = grind (arith, look-range first_of 1 n gs are.rise (all-map (λ (g : Group). g.first ≤ n) (λ (g : Group). g.first < 1 + n) gs (λ g l. omega (arith, l)) are.begun), begun_at-held)

  -- ---- the open groups of a log can be open

  begun_at-open : (fs : List Frame) (i : ℕ) (o : Group) → AreNumbered fs → begun_at ends fs i ≡ Some o → IsOpen o
  begun_at-open fs i o numbered e =
      let begun = begun_group ends is_ending fs i o e in
      let g = begun.group in
      let numbers : AreNumbered g =
      all-map _ (λ (f : Frame). f.number < most_frames) g (λ f h. h.0)
      (begun_all ends is_ending (λ (f : Frame). f.number < most_frames) fs o begun numbered) in
      let fine : IsFine g = record { numbers = numbers; once = begun.once; nonempty = begun.nonempty } in
      subst IsOpen begun.is (record {
        nonempty = pieces_of-some g numbers begun.nonempty;
        rise = pieces_of-rise g;
        numbers = pieces_of-numbers g;
        incomplete = complete-kept o.key g fine ∙ begun.left;
      })

  -- groups that are the open ones of their keys are apart, since their lines are
  apart_from : (fs : List Frame) (least : ℕ) (gs : List Group) → Rise first_of least gs → AllByRecursion (λ (o : Group). option_map (group_of o.key) (open_of ends o.key fs) ≡ Some o) gs → AreApart gs
  apart_from fs least [] r all = tt
  apart_from fs least (g ∷ gs) r all = (
    all-map _ (λ (h : Group). same_key g.key h.key ≡ false) gs (λ h e. differs h e.0 e.1) (all-zip (λ (h : Group). g.first + 1 ≤ h.first) (λ (o : Group). option_map (group_of o.key) (open_of ends o.key fs) ≡ Some o) gs (rise-least first_of (g.first + 1) gs r.1) all.1),
    apart_from fs (g.first + 1) gs r.1 all.1,
  )
    where
      differs : (h : Group) → g.first + 1 ≤ h.first → option_map (group_of h.key) (open_of ends h.key fs) ≡ Some h → same_key g.key h.key ≡ false
      differs h l e = false_from_ne_true (same_key g.key h.key) (λ t.
          let same : g ≡ h = same_Some g h (sym all.0 ∙ ap (λ (k : Key). option_map (group_of k) (open_of ends k fs)) (same_key-true g.key h.key t) ∙ e) in
          omega (arith, l, ap first_of same))

  pub open_groups-open : (n : ℕ) (fs : List Frame) → IsLog n fs → AreOpen n (open_groups ends n fs)
  unfolding open_groups
  open_groups-open n fs log =
      let rises = rise-range first_of (begun_at ends fs) (λ i o e. (begun_at-is ends is_ending fs i o e).0) 1 1 n (omega arith) in
      record {
        each = all-range IsOpen (begun_at ends fs) 1 n (λ i o l u e. begun_at-open fs i o log.numbers e);
        rise = rises;
        begun = all-range (λ (o : Group). o.first ≤ n) (begun_at ends fs) 1 n (λ i o l u e. let at = (begun_at-is ends is_ending fs i o e).0 in omega (arith, at, u));
        apart = apart_from fs 1 (open_groups ends n fs) rises (open_groups-each ends is_ending n fs);
      }
