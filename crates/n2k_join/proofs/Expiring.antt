-- A group whose window ends at the next line may be broken before the line is taken or at it.
use Rattle.std.proofs.Common.{◌≡◌, ◌≤◌, ◌<◌, ◌+◌, ◌-◌, ℕ, false, cond, not, List, [], ◌∷◌, ◌++◌, length, refl, sym, ap, ◌∙◌, subst, arith, Option, Some, None, option_map, drop, slice_get, option_to_list, option_and_then}
use Rattle.std.specs.List.{AllByRecursion}
use Rattle.std.proofs.lemmas.Bool.{ltb-true, ne_eqb, eq-eqb, not-true}
use Rattle.std.proofs.lemmas.Option.{none-some, cond_some}
use Rattle.n2k_wire.specs.declared.entry.Entry.{Entry}
use Rattle.n2k_table.specs.declared.definition.Kind.{Kind}
use Rattle.n2k_join.specs.declared.step.Broken.{Broken}
use Rattle.n2k_join.specs.Counts.{most_lines}
use Rattle.n2k_join.specs.Frames.{frame_in}
use Rattle.n2k_join.specs.Messages.{as_broken}
use Rattle.n2k_join.specs.Open.{Group, is_waiting, waiting, ended, open_within}
use Rattle.n2k_join.specs.State.{State, Given, held, next_line, overdue, step_given, step_after, Rise, IsState, AreWaiting}
use Rattle.n2k_join.specs.Step.{due, expired}
use Rattle.n2k_join.specs.Laws.{ExpiresFirst}
use Rattle.n2k_join.proofs.Rising.{rise-less, option_map_some}
use Rattle.n2k_join.specs.Window.{Window}
use Rattle.n2k_join.proofs.Windows.{later-wait}

-- the due group is the first of the groups, and the other ended groups follow it
pub record IsDue (s : State) (g : Group) : Type 0 where
  pub below : s.counts.lines ≡ most_lines → ⊥
  pub first : s.groups ≡ g ∷ drop 1 s.groups
  pub late : is_waiting s.window (next_line s) g ≡ false

-- a group, if its window has ended
abbrev if_ended : Window → ℕ → Group → Option Group
if_ended w line g = cond (not (is_waiting w line g)) (Some g) None

-- if first lines rise, the first of the groups is the first that has ended
ended-first : (w : Window) (line : ℕ) (gs : List Group) → Rise (λ (g : Group). g.first) 1 gs → (o : Option Group) → slice_get gs 0 ≡ o → slice_get (ended w line gs) 0 ≡ option_and_then (if_ended w line) o
unfolding ended
ended-first w line [] rise o e = ap (option_and_then (if_ended w line)) e
ended-first w line (g ∷ gs) rise o e = grind (arith, ltb-true, later-wait)

first-late : (w : Window) (line : ℕ) (gs : List Group) (g : Group) → Rise (λ (g : Group). g.first) 1 gs → slice_get (ended w line gs) 0 ≡ Some g → (gs ≡ g ∷ drop 1 gs) × (is_waiting w line g ≡ false)
first-late w line gs g rise e = grind (arith, ended-first, none-some, cond_some, not-true)

-- the due group is the first overdue one, if another line may follow
pub due_by : (s : State) → (s.counts.lines ≡ most_lines → ⊥) → due s ≡ slice_get (overdue s) 0
due_by s below = ap (λ b. cond b None (slice_get (overdue s) 0)) (ne_eqb _ _ below)

due-below : (s : State) (g : Group) → due s ≡ Some g → s.counts.lines ≡ most_lines → ⊥
due-below s g e at = none-some g (sym (ap (λ b. cond b None (slice_get (overdue s) 0)) (eq-eqb _ _ at)) ∙ e)

pub is_due : (s : State) (g : Group) → Rise (λ (g : Group). g.first) 1 s.groups → due s ≡ Some g → IsDue s g
is_due s g rise e = grind (arith, due-below s g e, first-late s.window (next_line s) s.groups g rise (sym (due_by s (due-below s g e)) ∙ e))

-- no group is due exactly if none has ended or no line follows
none_ended : (gs : List Group) → slice_get gs 0 ≡ None → gs ≡ []
none_ended [] e = refl
none_ended (g ∷ gs) e = absurd (none-some g (sym e))

pub none_due : (s : State) → due s ≡ None → s.counts.lines < most_lines → overdue s ≡ []
none_due s e below = none_ended (overdue s) (sym (due_by s (λ at. omega (arith, at, below))) ∙ e)

module _ (s : State) (g : Group) (is : IsDue s g) where
  pub ended-due : overdue s ≡ g ∷ overdue (expired s)
  unfolding ended expired
  ended-due = grind arith

  kept-due : waiting s.window (next_line s) s.groups ≡ waiting s.window (next_line s) (drop 1 s.groups)
  unfolding waiting
  kept-due = ap (λ gs. waiting s.window (next_line s) gs) is.first ∙ ap (λ b. cond b (g ∷ waiting s.window (next_line s) (drop 1 s.groups)) (waiting s.window (next_line s) (drop 1 s.groups))) is.late

  pub some-due : length s.groups ≡ length (drop 1 s.groups) + 1
  some-due = omega (arith, ap length is.first)

  -- without it the state is again one that a join can have
  pub expired-state : IsState s → IsState (expired s)
  unfolding expired
  expired-state state = grind (arith, rise-less)

  pub expired-waits : AreWaiting s → AreWaiting (expired s)
  unfolding expired
  expired-waits wait = (subst (AllByRecursion (λ (h : Group). s.counts.lines < h.first + s.window.lines)) is.first wait).1

  -- the result of the next line and the groups after it, if these groups wait and these have ended
  gives_with : (kind : ℕ → Option Kind) (e : Entry) → List Group → List Group → Given
  gives_with kind e waits ends = grind arith

  leaves_with : (kind : ℕ → Option Kind) (e : Entry) → List Group → List Group
  leaves_with kind e waits = open_within s.window (next_line s) (held waits ++ option_to_list (frame_in kind (next_line s) e))

  pub expires_first : (kind : ℕ → Option Kind) (e : Entry) → ExpiresFirst kind s e g
  unfolding step_given step_after expired gives_with leaves_with
  expires_first kind e = grind (arith, kept-due, ended-due)

-- ---- the result of a program that looks at the first of the groups

-- a due group and its facts
pub record FoundDue (s : State) : Type 0 where
  pub group : Group
  pub due_is : due s ≡ Some group

pub found_due : (s : State) (b : Broken) → option_map as_broken (due s) ≡ Some b → FoundDue s
found_due s b e = option_map_some as_broken (due s) b e (λ g is same. record { group = g; due_is = is })

pub record Expires (s : State) : Type 0 where
  pub group : Group
  pub is : IsDue s group

pub expires_by : (s t : State) (b : Broken) → s ≡ t → IsState s → option_map as_broken (due t) ≡ Some b → Expires s
expires_by s t b view state e =
    let found = found_due s b (ap (λ t. option_map as_broken (due t)) view ∙ e) in
    record { group = found.group; is = is_due s found.group state.groups.rise found.due_is }

-- the state that a program reaches which takes the first group away
pub expired_by : (s t : State) (gs : List Group) → s ≡ t → gs ≡ drop 1 s.groups
    → record { id = s.id; window = s.window; counts = record s.counts { broken = s.counts.broken + 1; held = s.counts.held - 1 }; groups = gs } ≡ expired t
unfolding expired
expired_by s t gs view is = grind arith

-- the due group is removed, so that fewer groups remain
some-ended : (w : Window) (line : ℕ) (gs : List Group) (g : Group) → slice_get (ended w line gs) 0 ≡ Some g → length (drop 1 gs) < length gs
unfolding ended
some-ended w line [] g e = absurd (none-some g e)
some-ended w line (h ∷ gs) g e = omega arith

pub fewer : (s t : State) (b : Broken) → option_map as_broken (due s) ≡ Some b → t ≡ expired s → length t.groups < length s.groups
unfolding expired
fewer s t b e is = grind (arith, some-ended)

-- if a group is due, the next line has a number
pub due-few : (s : State) (b : Broken) → s.counts.lines ≤ most_lines → option_map as_broken (due s) ≡ Some b → s.counts.lines < most_lines
due-few s b most e = let found = found_due s b e in omega (arith, most, due-below s found.group found.due_is)

-- the report of a program that takes the first of the ended groups
pub told : (s t : State) → s ≡ t → (s.counts.lines ≡ most_lines → ⊥) → (o : Option Broken) → o ≡ option_map as_broken (slice_get (overdue s) 0) → option_map as_broken (due t) ≡ o
told s t view below o is = ap (λ t. option_map as_broken (due t)) (sym view) ∙ ap (option_map as_broken) (due_by s below) ∙ sym is
