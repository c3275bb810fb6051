-- The code's result of a line and the groups after it are the step's, if no group is overdue.
use Rattle.std.proofs.Common.{◌≡◌, ◌<◌, ◌+◌, ℕ, Bool, true, List, [], ◌∷◌, ◌++◌, length, map, refl, sym, ap, ◌∙◌, subst, arith, ◌≤◌, Option, Some, None, IfSome, filter_map, is_some, append-nil}
use Rattle.std.specs.List.{AllByRecursion}
use Rattle.n2k_wire.specs.declared.entry.Entry.{Entry}
use Rattle.n2k_table.specs.declared.definition.Kind.{Kind}
use Rattle.n2k_join.specs.declared.counts.Counts.{Counts}
use Rattle.n2k_wire.specs.Packet.{PacketParts}
use Rattle.n2k_table.specs.Table.{KnownParts, TableParts}
use Rattle.n2k_join.specs.Step.{message_in, IsOwn, given_of, due}
use Rattle.n2k_join.specs.declared.step.Step.{Step}
use Rattle.n2k_join.specs.Frames.{Frame, frame_in}
use Rattle.n2k_join.specs.Groups.{within}
use Rattle.n2k_join.specs.Messages.{as_broken, alone, cause_in, is_unknown}
use Rattle.n2k_join.specs.Open.{Group, is_waiting, ended}
use Rattle.n2k_join.specs.State.{State, Given, held_of, next_line, overdue, one_if, step_after, IsOpen, AreOpen, IsState, step_given}
use Rattle.n2k_join.specs.Inner.Stored.{rejects, taken, opened, of_the_key, groups_after, gained, gives_by, leaves_by}
use Rattle.n2k_join.proofs.Advanced.{advanced, taken as advanced-taken, opened as advanced-opened}
use Rattle.n2k_join.proofs.Overdue.{one-broken}
use Rattle.n2k_join.proofs.Rising.{find-all, all-zip, all-map, all_with}
use Rattle.n2k_join.proofs.Steps.{StepsTo, kept, kept-open, kept-wait, frame_message, only_frame, step-none, step-frame}
use Rattle.n2k_join.proofs.Windows.{waiting-all, waits-ends, misfits-rejects}
use Rattle.n2k_join.specs.Window.{Window}
use Rattle.n2k_join.specs.Counts.{most_lines}
use Rattle.n2k_join.proofs.Expiring.{none_due}

-- a group that can be open, waits at a line, and began before it
abbrev WaitsAt : Window → ℕ → Group → Type 0
WaitsAt w line o = IsOpen o × (is_waiting w line o ≡ true) × (o.first < line)

rejects-at : (w : Window) (x : Frame) (o : Group) → WaitsAt w x.line o → within w (held_of o) x ≡ rejects w.in_order x.number o
rejects-at w x o fit = waits-ends w x o fit.0 fit.1 ∙ misfits-rejects w x o fit.0 fit.2

-- the message of a frame with the open group of its key, which waits
frame-message : (w : Window) (x : Frame) (gs : List Group) (o : Option Group) → of_the_key x.key gs ≡ o → IfSome o (WaitsAt w x.line) → frame_message w x gs ≡ gained w.in_order x o
frame-message w x gs o e fit = grind (arith, rejects-at)

found-fit : (w : Window) (x : Frame) (gs : List Group) → AllByRecursion (WaitsAt w x.line) gs → (o : Option Group) → of_the_key x.key gs ≡ o → IfSome o (WaitsAt w x.line)
found-fit w x gs all o e = grind (arith, find-all)

-- groups that wait are taken by the frame's number alone
same-taken : (w : Window) (x : Frame) (gs : List Group) → AllByRecursion (WaitsAt w x.line) gs → filter_map (advanced-taken (within w) x) gs ≡ filter_map (taken w.in_order x) gs
same-taken w x [] all = refl
same-taken w x (g ∷ gs) all = grind (arith, same-taken w x gs all.1, rejects-at)

same-opened : (w : Window) (x : Frame) (o : Option Group) → IfSome o (WaitsAt w x.line) → advanced-opened (within w) x o ≡ opened w.in_order x o
same-opened w x o fit = grind (arith, rejects-at)

same-groups : (w : Window) (x : Frame) (gs : List Group) → AllByRecursion (WaitsAt w x.line) gs → advanced (within w) gs x ≡ groups_after w.in_order gs x
unfolding advanced groups_after
same-groups w x gs all = grind (arith, same-taken, same-opened, found-fit)

-- if no group's window has ended, the line breaks none, and all wait
none-overdue : (w : Window) (line : ℕ) (gs : List Group) → ended w line gs ≡ [] → AllByRecursion (λ (g : Group). is_waiting w line g ≡ true) gs
unfolding ended
none-overdue w line [] e = tt
none-overdue w line (g ∷ gs) e = grind (arith, none-overdue w line gs)

module _ (kind : ℕ → Option Kind) (s : State) (e : Entry) (some : 0 < s.window.lines) (are : AreOpen s.counts.lines s.groups) where
  -- the groups whose window ends are broken, then the groups that wait give this for a frame, or none
  abbrev pub gives_all : Option Frame → Given
  gives_all o =
      let x = gives_by s.window.in_order (alone kind e) (cause_in kind e) (kept s) o in
      record { message = x.message; cause = x.cause; broken = map as_broken (overdue s) ++ x.broken }

  steps_by : (o : Option Frame) → frame_in kind (next_line s) e ≡ o → StepsTo kind s e (gives_all o) (leaves_by s.window.in_order (kept s) o)
  steps_by None none = subst (λ g. StepsTo kind s e g (kept s)) (λ i. record { message = alone kind e; cause = cause_in kind e; broken = sym (append-nil (map as_broken (overdue s))) i }) (step-none kind s e some are none)
  steps_by (Some x) found =
      let w = s.window in
      let opens = kept-open kind s e some are in
      let at : next_line s ≡ x.line = sym (only_frame kind (next_line s) e x found).line in
      let wait : AllByRecursion (λ (g : Group). is_waiting w x.line g ≡ true) (kept s) = subst (λ l. AllByRecursion (λ (g : Group). is_waiting w l g ≡ true) (kept s)) at (kept-wait kind s e some are) in
      let earlier : AllByRecursion (λ (g : Group). g.first < x.line) (kept s) = all-map (λ (g : Group). g.first ≤ s.counts.lines) (λ (g : Group). g.first < x.line) (kept s) (λ g l. omega (arith, l, at)) opens.begun in
      let fit : AllByRecursion (WaitsAt w x.line) (kept s) =
      all_with IsOpen (λ (g : Group). (is_waiting w x.line g ≡ true) × (g.first < x.line)) (WaitsAt w x.line) (λ g p q. (p, q.0, q.1)) (kept s) opens.each (all-zip (λ (g : Group). is_waiting w x.line g ≡ true) (λ (g : Group). g.first < x.line) (kept s) wait earlier) in
      let broken = one-broken w some x (kept s) opens.each wait earlier opens.apart in
      let message = frame-message w x (kept s) (of_the_key x.key (kept s)) refl (found-fit w x (kept s) fit (of_the_key x.key (kept s)) refl) in
      subst (StepsTo kind s e (gives_all (Some x))) (same-groups w x (kept s) fit)
      (subst (λ g. StepsTo kind s e g (advanced (within w) (kept s) x)) (λ i. record { message = message i; cause = None; broken = map as_broken (overdue s) ++ broken i }) (step-frame kind s e some are x found))

  -- The step on a state whose groups can be open.
  pub all-steps : StepsTo kind s e (gives_all (frame_in kind (next_line s) e)) (leaves_by s.window.in_order (kept s) (frame_in kind (next_line s) e))
  all-steps = steps_by (frame_in kind (next_line s) e) refl

  -- the same if no group is overdue
  line-steps : overdue s ≡ [] → let o = frame_in kind (next_line s) e in StepsTo kind s e (gives_by s.window.in_order (alone kind e) (cause_in kind e) s.groups o) (leaves_by s.window.in_order s.groups o)
  line-steps none_over =
      let o = frame_in kind (next_line s) e in
      let x = gives_by s.window.in_order (alone kind e) (cause_in kind e) (kept s) o in
      subst (λ gs. StepsTo kind s e (gives_by s.window.in_order (alone kind e) (cause_in kind e) gs o) (leaves_by s.window.in_order gs o)) (waiting-all s.window (next_line s) s.groups (none-overdue s.window (next_line s) s.groups none_over))
      (subst (λ g. StepsTo kind s e g (leaves_by s.window.in_order (kept s) o)) (λ i. record { message = x.message; cause = x.cause; broken = map as_broken (none_over i) ++ x.broken }) all-steps)

-- an entry that was taken as a message has one
pub own_counted : (t : TableParts) (known : Option KnownParts) (own : Option PacketParts) → IsOwn t known own → is_some (message_in (is_some known) own) ≡ is_some known
own_counted t known own is = grind arith

-- The result of a line and the groups after it, by facts that the code knows: the state is one of a join, and no group
-- is due.
module _ (kind : ℕ → Option Kind) (s t : State) (e : Entry) (order : Bool) (state : IsState s) (is : s ≡ t)
    (ready : due t ≡ None) (below : s.counts.lines ≡ most_lines → ⊥) (same : order ≡ s.window.in_order) where
  abbrev gives : Given
  gives = gives_by order (alone kind e) (cause_in kind e) s.groups (frame_in kind (next_line s) e)

  abbrev leaves : List Group
  leaves = leaves_by order s.groups (frame_in kind (next_line s) e)

  steps : StepsTo kind s e gives leaves
  steps =
      let o = frame_in kind (next_line s) e in
      let none_over = none_due s (ap due is ∙ ready) (omega (arith, state.counted.lines, below)) in
      subst (λ b. StepsTo kind s e (gives_by b (alone kind e) (cause_in kind e) s.groups o) (leaves_by b s.groups o))
      (sym same) (line-steps kind s e (omega (arith, state.window.least)) state.groups none_over)

  pub line-gives : {g : Given} → g ≡ gives → g ≡ step_given kind t e
  line-gives given = given ∙ sym steps.given ∙ ap (λ u. step_given kind u e) is

  pub line-leads : (step : Step) (unknown : Bool) (n : ℕ) (gs : List Group) (r : Counts)
      → given_of step ≡ gives → unknown ≡ is_unknown kind e → gs ≡ leaves → n ≡ length gs
      → r ≡ record {
        lines = s.counts.lines + 1;
        messages = s.counts.messages + one_if (is_some step.message);
        bad = s.counts.bad + one_if (is_some step.bad);
        unknown = s.counts.unknown + one_if unknown;
        broken = s.counts.broken + one_if (is_some step.broken);
        held = n;
      }
      → record { id = s.id; window = s.window; counts = r; groups = gs } ≡ step_after kind s e
  line-leads step unknown n gs r given known groups count is_r = grind (arith, steps)
