-- Runs that begin at any line of a log. Only distances between lines matter: from a state with the open groups of another
-- state, at the same distance, a run goes on as from that one. In order, the messages after a window of lines do not
-- depend on the lines before it.
use Rattle.std.specs.Prelude.{◌≡◌, ◌≤◌, ◌<◌, ℕ, ◌+◌, true, List, [], ◌∷◌, map, length, Option}
use Rattle.n2k_wire.specs.declared.entry.Entry.{Entry}
use Rattle.n2k_table.specs.declared.definition.Kind.{Kind}
use Rattle.n2k_join.specs.declared.step.Broken.{Broken}
use Rattle.n2k_join.specs.Open.{Group}
use Rattle.n2k_join.specs.State.{State, Given, step_given, step_after, AreOpen}
use Rattle.n2k_join.specs.Window.{Window}

-- a run can continue from the state: its window has a line, and its groups can be open
pub record CanContinue (s : State) : Type 0 where
  pub some : 0 < s.window.lines
  pub groups : AreOpen s.counts.lines s.groups

-- with `d` more lines before: an open group, the report of a broken group, and the result of a line
abbrev pub moved_group : ℕ → Group → Group
moved_group d g = record { first = g.first + d; key = g.key; pieces = g.pieces }

abbrev pub moved_broken : ℕ → Broken → Broken
moved_broken d b = record b { first = b.first + d }

abbrev pub moved_given : ℕ → Given → Given
moved_given d x = record { message = x.message; cause = x.cause; broken = map (moved_broken d) x.broken }

-- The state `t` has counted `d` lines more than `s`. Both have the same window and the same open groups, in key, frames
-- and distance to the next line. What else they counted may differ.
pub record IsMoved (d : ℕ) (s t : State) : Type 0 where
  pub window : t.window ≡ s.window
  pub lines : t.counts.lines ≡ s.counts.lines + d
  pub groups : t.groups ≡ map (moved_group d) s.groups

-- One run went from `s` to `s'`, another from `t` to `t'`. The second is again `d` lines ahead, with the same open
-- groups, and both counted the same on the way.
pub record LeadsMoved (d : ℕ) (s s' t t' : State) : Type 0 where
  pub moved : IsMoved d s' t'
  pub messages : t'.counts.messages + s.counts.messages ≡ s'.counts.messages + t.counts.messages
  pub bad : t'.counts.bad + s.counts.bad ≡ s'.counts.bad + t.counts.bad
  pub unknown : t'.counts.unknown + s.counts.unknown ≡ s'.counts.unknown + t.counts.unknown
  pub broken : t'.counts.broken + s.counts.broken ≡ s'.counts.broken + t.counts.broken

-- an entry gives the same in both states, except that lines are counted from `d` more in `t`, and both runs can continue
pub record StepsMoved (d : ℕ) (kind : ℕ → Option Kind) (s t : State) (e : Entry) : Type 0 where
  pub given : step_given kind t e ≡ moved_given d (step_given kind s e)
  pub leads : LeadsMoved d s (step_after kind s e) t (step_after kind t e)
  pub continues : CanContinue (step_after kind s e)
  pub also_continues : CanContinue (step_after kind t e)

-- the state after entries, from any state on
abbrev pub state_from : (ℕ → Option Kind) → State → List Entry → State
state_from kind s [] = s
state_from kind s (e ∷ es) = state_from kind (step_after kind s e) es

-- In order, these entries before a line are enough to know its message: with it they are at least a window of lines.
pub record AreEnough (window : Window) (es : List Entry) : Type 0 where
  pub in_order : window.in_order ≡ true
  pub long : window.lines ≤ length es + 1
