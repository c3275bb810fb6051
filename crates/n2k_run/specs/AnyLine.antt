-- The output of runs that begin at any line of a log.
use Rattle.std.specs.Prelude.{◌≡◌, ℕ, ◌+◌, Bool, List, ◌++◌}
use Rattle.n2k_table.specs.Table.{TableParts, kind}
use Rattle.n2k_join.specs.AnyLine.{moved_given}
use Rattle.n2k_join.specs.State.{State, next_line, step_given, step_after}
use Rattle.n2k_run.specs.declared.options.Options.{Options}
use Rattle.n2k_run.specs.Decoded.{join_fold, out}
use Rattle.n2k_run.specs.Fold.{Fold}
use Rattle.n2k_run.specs.Reports.{line_report}

-- A run's output, entry by entry, with `d` more lines before it: the same texts, and the same reports, with `d` more in
-- each number of a line.
abbrev pub moved_fold : ℕ → TableParts → Bool → Fold State
moved_fold d t empty = record {
  text = (join_fold t empty).text;
  report = λ s e. line_report (next_line s + d) (moved_given d (step_given (kind t) s e)).broken (step_given (kind t) s e).cause;
  after = step_after (kind t);
  lines = λ s. s.counts.lines + d;
}

-- After each of two logs, `rest` prints the same text.
pub record PrintsSame (t : TableParts) (o : Options) (prefix other rest : List ℕ) : Type 0 where
  pub text : List ℕ
  pub after_prefix : out t o (prefix ++ rest) ≡ out t o prefix ++ text
  pub after_other : out t o (other ++ rest) ≡ out t o other ++ text
