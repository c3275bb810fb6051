-- Properties of a state that was read: its groups are of fast PGNs of its table, it satisfies the rules of a join's
-- state, and few groups are open.
use Rattle.std.proofs.Common.{◌≡◌, ◌==◌, ℕ, true, List, [], ◌∷◌, length, Option, Some, Ok, IfOk, ◌≤◌, ◌+◌, sym, subst, arith, ◌<◌, All, not, IfSome}
use Rattle.std.specs.List.{list_any, AllByRecursion}
use Rattle.std.specs.Str.{bytes_eq}
use Rattle.std.proofs.lemmas.Bool.{and_parts}
use Rattle.std.proofs.lemmas.List.Elements.{recursion_from_All}
use Rattle.std.proofs.lemmas.Slice.Eq.{bytes_eq-Decides}
use Rattle.n2k_wire.specs.declared.entry.Entry.{Entry}
use Rattle.n2k_wire.specs.Entry.{IsEntry}
use Rattle.n2k_table.specs.declared.definition.Kind.{Kind}
use Rattle.n2k_table.specs.declared.definition.Kind.TheVariants.{Fast}
use Rattle.n2k_join.specs.declared.fault.StateFault.TheVariants.{NotJson, TableDiffers, WindowDiffers, Invalid}
use Rattle.n2k_join.specs.Counts.{most_lines}
use Rattle.n2k_join.specs.Frames.{same_key, Key, most_frames}
use Rattle.n2k_join.specs.Open.{Group, Piece}
use Rattle.n2k_wire.specs.Steps.{or_cause}
use Rattle.n2k_join.specs.Resumed.{counts_hold, firsts_rise, format_in, group_holds, groups_hold, is_valid, resumed, key_holds, parsed, read_state, waits_hold, pieces_rise}
use Rattle.n2k_join.specs.Saved.{IsId, state_text, are_waiting}
use Rattle.n2k_join.specs.State.{State, state, AreFast, IsState, HasParts, IsKey, IsPiece, IsOpen, AreWaiting, step_after}
use Rattle.n2k_join.specs.Window.{Window, IsWindow}
use Rattle.n2k_join.proofs.Keeping.{state-valid, few-open, step-keeps, step-waits}
use Rattle.n2k_join.proofs.Spelled.{if_ok-then, if_ok-held, if_ok-valid, if_ok-of, IsSpelled, state-spelled}
use Rattle.n2k_join.proofs.StateReads.{state_back}
use Rattle.n2k_join.specs.Rules.{HasSeven, HasShape, RulesAreOne}
use Rattle.n2k_join.proofs.SavedGroups.{total_from}
use Rattle.n2k_join.proofs.ValidStates.{valid_state, state_valid, in_time-from, in_time-to}
use Rattle.serde_json.specs.Data.{Data}
use Rattle.n2k_join.specs.declared.saved.object.StateFormat.{StateFormat}
use Rattle.n2k_join.specs.declared.saved.object.StateFormat.TheVariants.{WithWindow}
use Rattle.n2k_join.specs.Bounds.{HasWindow, HoldsFew}
use Rattle.n2k_join.proofs.Rising.{all-map, rise-few}
use Rattle.n2k_join.proofs.StateBound.{state-short}

fast-key : (kind : ℕ → Option Kind) (k : Key) → key_holds kind k ≡ true → kind k.pgn ≡ Some Fast
unfolding key_holds
fast-key kind k h = grind arith

groups-fast : (kind : ℕ → Option Kind) (gs : List Group) → groups_hold kind gs ≡ true → AreFast kind gs
unfolding groups_hold group_holds
groups-fast kind [] h = tt
groups-fast kind (g ∷ gs) h =
    let all = and_parts (group_holds kind g) _ h in
    let key = and_parts (key_holds kind g.key) _ all.0 in
    let rest = and_parts (not (list_any (λ (other : Group). same_key g.key other.key) gs)) (groups_hold kind gs) all.1 in
    (fast-key kind g.key key.0, groups-fast kind gs rest.1)

pub valid-fast : (kind : ℕ → Option Kind) (s : State) → is_valid kind s ≡ true → AreFast kind s.groups
unfolding is_valid
valid-fast kind s h = groups-fast kind s.groups (and_parts (firsts_rise 1 s.counts.lines s.groups) (groups_hold kind s.groups) (and_parts (counts_hold s.counts) _ h).1).1

-- a text that describes a state with its window is read in that format
told_format : (o : Option Data) (d : Data) (format : StateFormat) → or_cause NotJson o ≡ Ok d → format_in d ≡ Ok format
    → IfSome o (λ d. format_in d ≡ Ok WithWindow) → format ≡ WithWindow
told_format o d format read is with_window = grind arith

-- A text that is read describes a valid state of the given table and window. If the text has its window, no group's
-- window has ended.
pub record IsRead (kind : ℕ → Option Kind) (id : List ℕ) (w : Window) (bytes : List ℕ) (s : State) : Type 0 where
  pub same_table : s.id ≡ id
  pub same_window : s.window ≡ w
  pub spelled : IsSpelled w s
  pub valid : is_valid kind s ≡ true
  pub waits : HasWindow bytes → are_waiting s ≡ true

reads : (kind : ℕ → Option Kind) (id : List ℕ) (w : Window) (bytes : List ℕ) → IfOk (resumed kind id w bytes) (IsRead kind id w bytes)
unfolding resumed
reads kind id w bytes =
    if_ok-then Read (or_cause NotJson (parsed bytes)) _ (λ d read. if_ok-then Read (format_in d) _ (λ format is.
    if_ok-then Read (read_state format w d) _ (λ s spelled.
    if_ok-held Read TableDiffers (bytes_eq s.id id) _ (λ table.
    if_ok-held Read WindowDiffers (s.window.lines == w.lines) _ (λ window.
    if_ok-held Read Invalid (waits_hold format s) _ (λ in_time.
    if_ok-valid Read (is_valid kind s) s (λ valid.
    is_read s (if_ok-of (IsSpelled w) (read_state format w d) s (state-spelled format w d) spelled)
    table window valid
    (λ with_window. subst (λ (f : StateFormat). waits_hold f s ≡ true) (told_format (parsed bytes) d format read is with_window) in_time))))))))
  where
    Read : State → Type 0
    Read s = IsRead kind id w bytes s

    is_read : (s : State) → IsSpelled w s → bytes_eq s.id id ≡ true → (s.window.lines == w.lines) ≡ true → is_valid kind s ≡ true
        → (HasWindow bytes → are_waiting s ≡ true) → Read s
    is_read s spelled table window valid waits = grind (arith, bytes_eq-Decides)

pub read-spelled : (kind : ℕ → Option Kind) (id : List ℕ) (w : Window) (bytes : List ℕ) (s : State) → resumed kind id w bytes ≡ Ok s
    → IsRead kind id w bytes s
read-spelled kind id w bytes s is = grind (arith, reads kind id w bytes)

-- the state saved after a log reads back
pub log_back : (kind : ℕ → Option Kind) (id : List ℕ) (w : Window) (es : List Entry) → IsWindow w.lines → IsId id → All IsEntry es → length es ≤ most_lines
    → resumed kind id w (state_text (state id w kind es)) ≡ Ok (state id w kind es)
log_back kind id w es window is valid few =
    let stands = state-valid id w kind es window (recursion_from_All IsEntry es valid) few in
    state_back kind (state id w kind es) stands.valid stands.fast is

-- ---- the rules that reading tests are the rules of a join's state

key_from : (kind : ℕ → Option Kind) (k : Key) → key_holds kind k ≡ true → IsKey k
unfolding key_holds
key_from kind k h = grind arith

pieces_from : (least : ℕ) (ps : List Piece) → pieces_rise least ps ≡ true → AllByRecursion HasSeven ps → AllByRecursion IsPiece ps
unfolding pieces_rise
pieces_from least [] h seven = tt
pieces_from least (p ∷ ps) h seven =
    let hs = and_parts _ _ h in
    let total = (and_parts _ _ (and_parts _ _ hs.0).1).1 in
    (record { seven = seven.0.seven; are_bytes = seven.0.are_bytes; total = total_from p.number p.bytes total }, pieces_from (p.number + 1) ps hs.1 seven.1)

parts_from : (kind : ℕ → Option Kind) (gs : List Group) → groups_hold kind gs ≡ true → AllByRecursion (λ (g : Group). AllByRecursion HasSeven g.pieces) gs → AllByRecursion HasParts gs
unfolding groups_hold group_holds
parts_from kind [] h seven = tt
parts_from kind (g ∷ gs) h seven =
    let hs = and_parts _ _ h in
    let group = and_parts _ _ hs.0 in
    let pieces = (and_parts _ _ (and_parts _ _ group.1).1).0 in
    (record { key = key_from kind g.key group.0; pieces = pieces_from 0 g.pieces pieces seven.0 }, parts_from kind gs (and_parts _ _ hs.1).1 seven.1)

valid-state : (kind : ℕ → Option Kind) (s : State) → HasShape s → is_valid kind s ≡ true → IsState s
unfolding is_valid
valid-state kind s is h = grind (arith, valid_state, parts_from)

pub rules-one : (kind : ℕ → Option Kind) (s : State) → HasShape s → RulesAreOne kind s
rules-one kind s is = grind (arith, valid-state, valid-fast, state_valid, in_time-from, in_time-to)

-- a text that is read spells a state that a join can have
pub read-state : (kind : ℕ → Option Kind) (id : List ℕ) (w : Window) (bytes : List ℕ) (s : State) → IsWindow w.lines → resumed kind id w bytes ≡ Ok s → IsState s
read-state kind id w bytes s window is = grind (arith, read-spelled kind id w bytes s is, valid-state)

-- ---- the limits of its groups

few-frames : (gs : List Group) → AllByRecursion IsOpen gs → AllByRecursion (λ (g : Group). length g.pieces ≤ most_frames) gs
few-frames gs each = all-map IsOpen (λ (g : Group). length g.pieces ≤ most_frames) gs (λ g is. let few = rise-few (λ (p : Piece). p.number) 0 most_frames g.pieces is.rise is.numbers in omega (arith, few)) each

holds_few : (s : State) → IsState s → AreWaiting s → IsId s.id → HoldsFew s
holds_few s is waits id = grind (arith, few-open, state-short, few-frames)

pub few_resumed : (kind : ℕ → Option Kind) (id : List ℕ) (w : Window) (bytes : List ℕ) (s : State) → IsWindow w.lines → IsId id
    → HasWindow bytes → resumed kind id w bytes ≡ Ok s → HoldsFew s
few_resumed kind id w bytes s window known with_window is = grind (arith, read-spelled kind id w bytes s is, read-state kind id w bytes s window is, holds_few, in_time-from)

pub few_after : (kind : ℕ → Option Kind) (id : List ℕ) (w : Window) (bytes : List ℕ) (s : State) (e : Entry) → IsWindow w.lines → IsId id → resumed kind id w bytes ≡ Ok s → IsEntry e → s.counts.lines < most_lines → HoldsFew (step_after kind s e)
unfolding step_after
few_after kind id w bytes s e window known is valid below =
    let read = read-spelled kind id w bytes s is in
    holds_few (step_after kind s e) (step-keeps kind s e (read-state kind id w bytes s window is) valid below) (step-waits kind s e) (subst IsId (sym read.same_table) known)
