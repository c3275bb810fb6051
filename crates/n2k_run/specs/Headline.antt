-- The headline of this crate, a clause of `run_parts`: a log that was cut after lines prints in parts exactly what one
-- run over it prints, and leaves the state and the counts of one run.
use Rattle.std.specs.Prelude.{◌≡◌, ℕ, List, [], ◌∷◌}
use Rattle.std.specs.Io.{IsEmptyOrEndsWith}
use Rattle.std.specs.Io.KnownBytes.{Appends}
use Rattle.n2k_table.specs.Table.{TableParts, kind}
use Rattle.n2k_join.specs.Messages.{counts}
use Rattle.n2k_join.specs.Saved.{state_text}
use Rattle.n2k_join.specs.State.{State, state}
use Rattle.n2k_run.specs.declared.options.Options.{Options}
use Rattle.n2k_run.specs.declared.part.Part.{Part}
use Rattle.n2k_run.specs.Decoded.{out, reports}
use Rattle.n2k_run.specs.Entries.{entries}
use Rattle.n2k_run.specs.Lines.{line_feed}
use Rattle.n2k_run.specs.Runs.{Devices}

-- a log was cut into these parts after lines: each but the last is empty or ends with a line
abbrev pub AreCutAtLines : List (List ℕ) → Type 0
AreCutAtLines [] = Unit {0}
AreCutAtLines (part ∷ []) = Unit {0}
AreCutAtLines (part ∷ next ∷ parts) = IsEmptyOrEndsWith part line_feed × AreCutAtLines (next ∷ parts)

-- the state that a log leads to
abbrev pub state_after : TableParts → Options → List ℕ → State
state_after t o log = state t.id o.window (kind t) (entries o.packing log)

-- the saved state after a log
unfoldable pub save : TableParts → Options → List ℕ → List ℕ
save t o log = state_text (state_after t o log)

-- the whole log was printed: the sinks gained its output and its reports, and the Part has the saved state and the
-- counts after it
pub record PrintsLog (t : TableParts) (o : Options) (log : List ℕ) (before after : Devices) (part : Part) : Type 0 where
  pub printed : Appends before.written after.written (out t o log)
  pub reported : Appends before.reported after.reported (reports t o log)
  pub saved : part.state.items ≡ save t o log
  pub counted : part.counts ≡ counts o.window (kind t) (entries o.packing log)
