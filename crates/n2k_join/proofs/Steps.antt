-- The step in the forms that a program uses. A stored group is a list of frames as they came; a state has `group_of` of
-- its key and that list.
use Rattle.std.proofs.Common.{◌≡◌, ◌<◌, ℕ, true, false, List, [], ◌∷◌, ◌++◌, length, map, refl, sym, ap, ◌∙◌, arith, Option, Some, None, option_map, option_to_list, filter_map, append-nil}
use Rattle.std.specs.Option.{option_or}
use Rattle.std.specs.List.{AllByRecursion}
use Rattle.n2k_wire.specs.declared.entry.BadCause.{BadCause}
use Rattle.n2k_wire.specs.declared.entry.Entry.{Entry}
use Rattle.n2k_wire.specs.Packet.{PacketParts}
use Rattle.n2k_table.specs.declared.definition.Kind.{Kind}
use Rattle.n2k_join.specs.declared.step.Broken.{Broken}
use Rattle.n2k_join.specs.Frames.{Key, same_key, Frame, of_key, frame_in}
use Rattle.n2k_join.specs.Groups.{EndTest, within}
use Rattle.n2k_join.specs.Open.{Group, open_groups, is_waiting, waiting, open_within}
use Rattle.n2k_join.specs.Messages.{Keyed, message_of, alone, cause_in, gathered, as_broken, broken_with, is_unknown}
use Rattle.n2k_join.specs.State.{State, Given, held_of, held, next_line, overdue, step_frames, step_given, step_groups, step_after, counts_after, IsOpen, AreOpen}
use Rattle.n2k_join.proofs.Advanced.{of_the_key, advanced}
use Rattle.n2k_join.proofs.BrokenGroups.{told_if, runs_out, breaks, broken-none, broken-last}
use Rattle.n2k_join.proofs.Cuts.{IsEnding, so_far, within-ends}
use Rattle.n2k_join.proofs.Held.{so_far-held}
use Rattle.n2k_join.proofs.Keys.{same_key-true}
use Rattle.n2k_join.proofs.Given.{completed, keyed, gathered-last, gathered-none}
use Rattle.n2k_join.proofs.Opened.{IsLog}
use Rattle.n2k_join.proofs.Overdue.{none-run_out}
use Rattle.n2k_join.proofs.Resumed.{held-log, held-own, held-other, open_groups-held}
use Rattle.n2k_join.proofs.Rising.{find-passes, find-all, passes_none, all-map, all-zip}
use Rattle.n2k_join.proofs.Windows.{open-waiting, waits-before, waiting-all, all-waiting, open_within-push, open_within-none}
use Rattle.n2k_join.specs.Window.{Window}
use Rattle.n2k_join.proofs.Lines.{frame_of_packet}

-- ---- an entry

-- a frame has the line, and its entry gives nothing else
pub record IsOnlyFrame (kind : ℕ → Option Kind) (n : ℕ) (e : Entry) (x : Frame) : Type 0 where
  pub line : x.line ≡ n
  pub alone : alone kind e ≡ None
  pub cause : cause_in kind e ≡ None
  pub known : is_unknown kind e ≡ false

pub only_frame : (kind : ℕ → Option Kind) (line : ℕ) (e : Entry) (x : Frame) → frame_in kind line e ≡ Some x → IsOnlyFrame kind line e x
only_frame kind line e x is = grind (arith, frame_of_packet kind line e x is)

-- ---- the held frames of a key

so_far-of_key : (ends : EndTest) → IsEnding ends → (n : ℕ) (k : Key) (gs : List Group) → AreOpen n gs → so_far ends (of_key k (held gs)) ≡ option_map held_of (of_the_key k gs)
unfolding so_far
so_far-of_key ends is_ending n k gs are = by (of_the_key k gs) refl
  where
    by : (q : Option Group) → of_the_key k gs ≡ q → so_far ends (of_key k (held gs)) ≡ option_map held_of q
    by None e = ap (so_far ends) (held-other k gs (passes_none (λ (o : Group). same_key k o.key) gs e))
    by (Some o) e = grind (arith, same_key-true k o.key (find-passes (λ (o : Group). same_key k o.key) gs o e), find-passes (λ (o : Group). same_key k o.key) gs o e, find-all (λ (g : Group). IsOpen g × (of_key g.key (held gs) ≡ held_of g)) (λ (o : Group). same_key k o.key) gs o (all-zip IsOpen (λ (g : Group). of_key g.key (held gs) ≡ held_of g) gs are.each (held-own gs are.apart)) e, held-own gs are.apart, so_far ends (of_key k (held gs)), so_far ends, so_far-held)

-- ---- the step

-- The result of an entry, and the groups that it leaves open; so the state after it is this.
pub record StepsTo (kind : ℕ → Option Kind) (s : State) (e : Entry) (gives : Given) (leaves : List Group) : Type 0 where
  pub given : step_given kind s e ≡ gives
  pub after : step_after kind s e ≡ record { id = s.id; window = s.window; counts = counts_after kind s.counts e gives (length leaves); groups = leaves }

steps_to : (kind : ℕ → Option Kind) (s : State) (e : Entry) (given : Given) (groups : List Group) → step_given kind s e ≡ given → step_groups kind s e ≡ groups → StepsTo kind s e given groups
unfolding step_after
steps_to kind s e given groups g h = grind arith

-- the groups that still wait at the next line
abbrev pub kept : State → List Group
kept s = waiting s.window (next_line s) s.groups

-- the message of a frame, with these groups open
abbrev pub frame_message : Window → Frame → List Group → Option PacketParts
frame_message w x gs = option_map (message_of x) (completed (within w) (option_map held_of (of_the_key x.key gs)) x)

given_by : (p : Option Keyed) (a : Option PacketParts) (c : Option BadCause) (b : List Broken) → Given
given_by p a c b = record { message = option_or (option_map (λ (m : Keyed). m.message) p) a; cause = c; broken = b }

pub message_alone : (w : Window) (x : Frame) (c : Option (List Frame)) → option_or (option_map (λ (m : Keyed). m.message) (option_map (keyed (within w) x) c)) None ≡ option_map (message_of x) c
message_alone w x c = grind arith

module _ (kind : ℕ → Option Kind) (s : State) (e : Entry) (some : 0 < s.window.lines) (are : AreOpen s.counts.lines s.groups) where
  -- the result of a frame: its message, and the group that it breaks besides the groups whose window ends
  abbrev pub frame_gives : Frame → Given
  frame_gives x = record {
    message = frame_message s.window x (kept s);
    cause = None;
    broken = map as_broken (overdue s) ++ filter_map (told_if s.window some (breaks s.window some x)) (kept s);
  }

  pub kept-open : AreOpen s.counts.lines (kept s)
  kept-open = open-waiting s.window (next_line s) s.counts.lines s.groups are

  kept-log : IsLog s.counts.lines (held (kept s))
  kept-log = held-log s.counts.lines (kept s) kept-open

  pub kept-wait : AllByRecursion (λ (g : Group). is_waiting s.window (next_line s) g ≡ true) (kept s)
  kept-wait = all-waiting s.window (next_line s) s.groups

  kept-groups : open_groups (within s.window) s.counts.lines (held (kept s)) ≡ kept s
  kept-groups = open_groups-held (within s.window) (within-ends s.window some) s.counts.lines (kept s) kept-open

  -- the held frames of the kept groups have them open, at the last line and at the next
  kept-now : open_within s.window s.counts.lines (held (kept s)) ≡ kept s
  kept-now =
      ap (waiting s.window s.counts.lines) kept-groups
      ∙ waiting-all s.window s.counts.lines (kept s) (all-map (λ (g : Group). is_waiting s.window (next_line s) g ≡ true) (λ (g : Group). is_waiting s.window s.counts.lines g ≡ true) (kept s) (λ g e. waits-before s.window s.counts.lines g e) kept-wait)

  kept-next : waiting s.window (next_line s) (open_within s.window s.counts.lines (held (kept s))) ≡ kept s
  kept-next = ap (waiting s.window (next_line s)) kept-now ∙ waiting-all s.window (next_line s) (kept s) kept-wait

  -- an entry without a frame leaves the groups that wait
  pub step-none : frame_in kind (next_line s) e ≡ None → StepsTo kind s e (record { message = alone kind e; cause = cause_in kind e; broken = map as_broken (overdue s) }) (kept s)
  unfolding step_given given_by
  step-none none =
      let w = s.window in
      let fs : step_frames kind s e ≡ held (kept s) = ap (λ o. held (kept s) ++ option_to_list o) none ∙ append-nil (held (kept s)) in
      let quiet : broken_with w (held (kept s)) (next_line s) ≡ [] = broken-none w some s.counts.lines (held (kept s)) kept-log ∙ ap (filter_map (told_if w some (runs_out w some (next_line s)))) kept-groups ∙ none-run_out w some (next_line s) (kept s) kept-wait in
      steps_to kind s e _ _
      (λ i. given_by
      ((ap (λ fs. gathered (within w) fs (next_line s)) fs ∙ gathered-none (within w) s.counts.lines (next_line s) (held (kept s)) kept-log (omega arith)) i) (alone kind e) (cause_in kind e)
      ((ap (λ fs. map as_broken (overdue s) ++ broken_with w fs (next_line s)) fs ∙ ap (λ bs. map as_broken (overdue s) ++ bs) quiet ∙ append-nil (map as_broken (overdue s))) i))
      (ap (λ fs. open_within w (next_line s) fs) fs ∙ open_within-none w s.counts.lines some (held (kept s)) kept-log ∙ kept-next)

  -- An entry with a frame has the frame's result with the open group of its key, and the groups advance.
  pub step-frame : (x : Frame) → frame_in kind (next_line s) e ≡ Some x → StepsTo kind s e (frame_gives x) (advanced (within s.window) (kept s) x)
  unfolding step_given given_by
  step-frame x found =
      let w = s.window in
      let only = only_frame kind (next_line s) e x found in
      let fs : step_frames kind s e ≡ held (kept s) ++ x ∷ [] = ap (λ o. held (kept s) ++ option_to_list o) found in
      let past : s.counts.lines < x.line = omega (arith, only.line) in
      let so_far_is = so_far-of_key (within w) (within-ends w some) s.counts.lines x.key (kept s) kept-open in
      let message_is : gathered (within w) (step_frames kind s e) (next_line s) ≡ option_map (keyed (within w) x) (completed (within w) (option_map held_of (of_the_key x.key (kept s))) x) =
      ap (λ fs. gathered (within w) fs (next_line s)) fs ∙ ap (gathered (within w) (held (kept s) ++ x ∷ [])) (sym only.line) ∙ gathered-last (within w) s.counts.lines (held (kept s)) x kept-log past ∙ ap (λ g. option_map (keyed (within w) x) (completed (within w) g x)) so_far_is in
      let broken_is : broken_with w (step_frames kind s e) (next_line s) ≡ filter_map (told_if w some (breaks w some x)) (kept s) =
      ap (λ fs. broken_with w fs (next_line s)) fs ∙ broken-last w some s.counts.lines (held (kept s)) x kept-log only.line ∙ ap (filter_map (told_if w some (breaks w some x))) kept-groups in
      steps_to kind s e _ _
      ((λ i. given_by (message_is i) (only.alone i) (only.cause i) (map as_broken (overdue s) ++ broken_is i))
      ∙ ap (λ m. record { message = m; cause = None; broken = map as_broken (overdue s) ++ filter_map (told_if w some (breaks w some x)) (kept s) }) (message_alone w x (completed (within w) (option_map held_of (of_the_key x.key (kept s))) x)))
      (ap (λ fs. open_within w (next_line s) fs) fs ∙ open_within-push w s.counts.lines some (held (kept s)) x kept-log only.line ∙ ap (λ gs. advanced (within w) gs x) kept-next)
