-- The rules of a valid state, and whether a text is JSON.
use Rattle.std.proofs.lemmas.Grind.{common_steps}
use Rattle.std.proofs.Common.{◌≡◌, ◌≤◌, ◌<◌, ◌+◌, ◌&&◌, ℕ, Bool, true, false, if◌then◌else◌, List, [], ◌∷◌, length, Option, Some, None, Ok, Err, refl, sym, ap, ◌∙◌, arith, IsUtf8, IsTrue}
use Rattle.std.specs.List.{AllByRecursion, list_all}
use Rattle.std.specs.Str.{is_utf8}
use Rattle.std.proofs.lemmas.Str.{IsUtf8-from_is_utf8, is_utf8-from_IsUtf8}
use Rattle.serde_json.specs.Data.{Data}
use Rattle.serde_json.specs.Read.{read}
use Rattle.n2k_table.specs.declared.definition.Kind.{Kind}
use Rattle.n2k_table.specs.declared.definition.Kind.TheVariants.{Fast}
use Rattle.n2k_join.specs.declared.counts.Counts.{Counts}
use Rattle.n2k_join.specs.declared.fault.StateFault.{StateFault}
use Rattle.n2k_join.specs.declared.fault.StateFault.TheVariants.{NotJson, Invalid}
use Rattle.n2k_join.specs.Frames.{Key, same_key, most_frames}
use Rattle.n2k_join.specs.Open.{Piece, Group, is_waiting}
use Rattle.n2k_wire.specs.Steps.{or_cause}
use Rattle.n2k_join.specs.Resumed.{parsed, counts_hold, firsts_rise, group_holds, groups_hold, is_valid, pieces_rise, state_of_parts, valid_if, key_holds}
use Rattle.n2k_join.specs.Inner.Apart.{numbers_hold}
use Rattle.n2k_join.specs.State.{State, IsState, AreCounts, AreApart, AreFast, IsOpen, IsKey, IsPiece, HasParts, Rise, AreWaiting}
use Rattle.n2k_join.specs.Window.{Window, IsWindow}
use Rattle.std.proofs.lemmas.Bool.{le-leb, lt-ltb, and_from, and_parts, leb-true, not-true, ltb-true}
use Rattle.n2k_join.proofs.SavedGroups.{rise_from, small_from}
use Rattle.std.proofs.lemmas.List.Folds.{list_any_none}
use Rattle.n2k_join.proofs.Rising.{none_any}
use Rattle.n2k_join.specs.Saved.{are_waiting}

parsed_by : (bs : List ℕ) (b : Bool) → is_utf8 bs ≡ b → parsed bs ≡ (if b then read bs else None)
parsed_by bs b e = ap (λ b. if b then read bs else None) e

pub parsed_some : (bs : List ℕ) (d : Data) → IsUtf8 bs → read bs ≡ Some d → or_cause NotJson (parsed bs) ≡ Ok d
parsed_some bs d text is = ap (or_cause NotJson) (parsed_by bs true (is_utf8-from_IsUtf8 bs text) ∙ is)

pub parsed_none : (bs : List ℕ) → (IsUtf8 bs → read bs ≡ None) → or_cause NotJson (parsed bs) ≡ Err NotJson
parsed_none bs none = grind (arith, parsed_by, IsUtf8-from_is_utf8)

pub untrue : (b : Bool) → b ≡ false → IsTrue b → ⊥
untrue b e h = grind arith

counts_from : (s : State) → counts_hold s.counts ≡ true → AreCounts s.counts
unfolding counts_hold
counts_from s h = grind arith

firsts_from : (least lines : ℕ) (gs : List Group) → firsts_rise least lines gs ≡ true → Rise (λ (g : Group). g.first) least gs × AllByRecursion (λ (g : Group). g.first ≤ lines) gs
unfolding firsts_rise
firsts_from least lines [] h = (tt, tt)
firsts_from least lines (g ∷ gs) h =
    let hs = and_parts _ _ h in
    let more = and_parts _ _ hs.1 in
    let rest = firsts_from (g.first + 1) lines gs more.1 in
    ((leb-true _ _ hs.0, rest.0), (leb-true _ _ more.0, rest.1))

open_from : (kind : ℕ → Option Kind) (g : Group) → group_holds kind g ≡ true → IsOpen g
unfolding group_holds
open_from kind g h = grind (arith, rise_from, small_from)

groups_from : (kind : ℕ → Option Kind) (gs : List Group) → groups_hold kind gs ≡ true → AllByRecursion IsOpen gs × AreApart gs
unfolding groups_hold
groups_from kind [] h = (tt, tt)
groups_from kind (g ∷ gs) h =
    let hs = and_parts _ _ h in
    let more = and_parts _ _ hs.1 in
    let rest = groups_from kind gs more.1 in
    let apart = none_any (λ (other : Group). same_key g.key other.key) gs (not-true _ more.0) in
    ((open_from kind g hs.0, rest.0), (apart, rest.1))

pub valid_state : (kind : ℕ → Option Kind) (s : State) → IsWindow s.window.lines → counts_hold s.counts ≡ true → firsts_rise 1 s.counts.lines s.groups ≡ true → groups_hold kind s.groups ≡ true
    → s.counts.held ≡ length s.groups → AllByRecursion HasParts s.groups → IsState s
valid_state kind s window counts firsts groups held parts = grind (arith, firsts_from, groups_from, counts_from)

-- ---- no group's window has ended

waits_from : (w : Window) (lines : ℕ) (gs : List Group) → list_all (is_waiting w lines) gs ≡ true → AllByRecursion (λ (g : Group). lines < g.first + w.lines) gs
waits_from w lines [] h = tt
waits_from w lines (g ∷ gs) h = let parts = and_parts _ _ h in (ltb-true lines (g.first + w.lines) parts.0, waits_from w lines gs parts.1)

waits_to : (w : Window) (lines : ℕ) (gs : List Group) → AllByRecursion (λ (g : Group). lines < g.first + w.lines) gs → list_all (is_waiting w lines) gs ≡ true
waits_to w lines [] h = refl
waits_to w lines (g ∷ gs) h = and_from _ _ (lt-ltb lines (g.first + w.lines) h.0) (waits_to w lines gs h.1)

pub in_time-from : (s : State) → are_waiting s ≡ true → AreWaiting s
in_time-from s h = waits_from s.window s.counts.lines s.groups h

pub in_time-to : (s : State) → AreWaiting s → are_waiting s ≡ true
in_time-to s h = waits_to s.window s.counts.lines s.groups h

-- ---- the rules resumed in turn

holds_from : (b : Bool) (gs stored : List Group) → valid_if b gs ≡ Ok stored → (b ≡ true) × (stored ≡ gs)
holds_from b gs stored h = grind arith

module _ (kind : ℕ → Option Kind) (id : List ℕ) (w : Window) (c : Counts) (gs : List Group) (r : Bool) (is : r ≡ numbers_hold c gs) where
  abbrev spelled : State
  spelled = state_of_parts id w c gs

  valid_by : is_valid kind spelled ≡ (r && groups_hold kind gs)
  unfolding is_valid
  valid_by = grind arith

  pub rules_broken : r ≡ false → valid_if (is_valid kind spelled) spelled ≡ Err Invalid
  rules_broken is_false = ap (λ b. valid_if b spelled) (valid_by ∙ ap (λ b. b && groups_hold kind gs) is_false)

  valid_groups : r ≡ true → is_valid kind spelled ≡ groups_hold kind gs
  valid_groups is_true = valid_by ∙ ap (λ b. b && groups_hold kind gs) is_true

  pub groups_broken : (fault : StateFault) → r ≡ true → valid_if (groups_hold kind gs) gs ≡ Err fault → valid_if (is_valid kind spelled) spelled ≡ Err fault
  groups_broken fault is_true broken = grind (arith, valid_groups)

  module _ (stored : List Group) (held : ℕ) (is_true : r ≡ true) (holds : valid_if (groups_hold kind gs) gs ≡ Ok stored) (len : held ≡ length stored) where
    abbrev reached : State
    reached = record { id = id; window = w; counts = record c { held = held }; groups = stored }

    hold : (groups_hold kind gs ≡ true) × (stored ≡ gs)
    hold = holds_from (groups_hold kind gs) gs stored holds

    same : spelled ≡ reached
    same = ap (state_of_parts id w c) (sym hold.1) ∙ ap (λ n. let s : State = record { id = id; window = w; counts = record c { held = n }; groups = stored } in s) (sym len)

    pub all_hold : valid_if (is_valid kind spelled) spelled ≡ Ok reached
    all_hold = ap (λ b. valid_if b spelled) (valid_groups is_true ∙ hold.0) ∙ ap Ok same

    pub is_state : IsWindow w.lines → AllByRecursion HasParts stored → IsState reached
    is_state window parts =
        let rules = and_parts (counts_hold (record c { held = length gs })) (firsts_rise 1 c.lines gs) (sym is ∙ is_true) in
        valid_state kind reached window (ap (λ (s : State). counts_hold s.counts) (sym same) ∙ rules.0) (ap (firsts_rise 1 c.lines) hold.1 ∙ rules.1) (ap (groups_hold kind) hold.1 ∙ hold.0) len parts

-- ---- a valid state meets the rules

counts_to : (c : Counts) → AreCounts c → counts_hold c ≡ true
unfolding counts_hold
counts_to c is = and_from _ _ (le-leb _ _ is.lines) (and_from _ _ (le-leb _ _ is.broken) (le-leb _ _ is.given))

firsts_to : (least lines : ℕ) (gs : List Group) → Rise (λ (g : Group). g.first) least gs → AllByRecursion (λ (g : Group). g.first ≤ lines) gs → firsts_rise least lines gs ≡ true
unfolding firsts_rise
firsts_to least lines [] rise begun = refl
firsts_to least lines (g ∷ gs) rise begun = and_from _ _ (le-leb _ _ rise.0) (and_from _ _ (le-leb _ _ begun.0) (firsts_to (g.first + 1) lines gs rise.1 begun.1))

pieces_to : (least : ℕ) (ps : List Piece) → Rise (λ (p : Piece). p.number) least ps → AllByRecursion (λ (p : Piece). p.number < most_frames) ps → AllByRecursion IsPiece ps → pieces_rise least ps ≡ true
unfolding pieces_rise
pieces_to least [] rise small parts = refl
pieces_to least (p ∷ ps) rise small parts = grind (arith, pieces_to (p.number + 1) ps rise.1 small.1 parts.1)

key_to : (kind : ℕ → Option Kind) (k : Key) → IsKey k → kind k.pgn ≡ Some Fast → key_holds kind k ≡ true
unfolding key_holds
key_to kind k is fast = grind arith

group_to : (kind : ℕ → Option Kind) (g : Group) → HasParts g → IsOpen g → kind g.key.pgn ≡ Some Fast → group_holds kind g ≡ true
unfolding group_holds
group_to kind g parts is fast = grind (arith, key_to, pieces_to)

groups_to : (kind : ℕ → Option Kind) (gs : List Group) → AllByRecursion HasParts gs → AllByRecursion IsOpen gs → AreFast kind gs → AreApart gs → groups_hold kind gs ≡ true
unfolding groups_hold
groups_to kind [] parts each fast apart = refl
groups_to kind (g ∷ gs) parts each fast apart = grind (arith, groups_to kind gs parts.1 each.1 fast.1 apart.1, group_to, list_any_none, common_steps)

pub state_valid : (kind : ℕ → Option Kind) (s : State) → IsState s → AreFast kind s.groups → is_valid kind s ≡ true
unfolding is_valid
state_valid kind s is fast = grind (arith, counts_to, firsts_to, groups_to)
