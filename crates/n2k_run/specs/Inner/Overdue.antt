-- The next step after the groups were broken whose window ends at its line.
use Rattle.std.specs.Prelude.{◌≡◌, ℕ, List, ◌++◌, Option}
use Rattle.std.specs.List.{flat_map}
use Rattle.n2k_wire.specs.declared.entry.Entry.{Entry}
use Rattle.n2k_table.specs.declared.definition.Kind.{Kind}
use Rattle.n2k_join.specs.Counts.{most_lines}
use Rattle.n2k_join.specs.State.{State, next_line, step_after, step_given}
use Rattle.n2k_run.specs.Reports.{broken_text}

-- The join goes from `s` to `t`, counting no line, and the broken groups are reported. The step from `t` leads to the
-- same state as the step from `s`, and gives the same except for these groups. At the most lines nothing changes.
pub record BreaksOverdue (s t : State) (report report' : List ℕ) : Type 0 where
  pub after : (kind : ℕ → Option Kind) (e : Entry) → step_after kind s e ≡ step_after kind t e
  pub message : (kind : ℕ → Option Kind) (e : Entry) → (step_given kind s e).message ≡ (step_given kind t e).message
  pub cause : (kind : ℕ → Option Kind) (e : Entry) → (step_given kind s e).cause ≡ (step_given kind t e).cause
  pub broken : (kind : ℕ → Option Kind) (e : Entry) →
      report ++ flat_map (broken_text (next_line s)) (step_given kind s e).broken
      ≡ report' ++ flat_map (broken_text (next_line s)) (step_given kind t e).broken
  pub same_lines : t.counts.lines ≡ s.counts.lines
  pub still : s.counts.lines ≡ most_lines → (t ≡ s) × (report' ≡ report)
