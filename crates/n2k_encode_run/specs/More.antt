-- What an `Encoding` promises: more lines of a log, in memory, after those of its earlier calls.
use Rattle.std.specs.Prelude.{◌≡◌, ◌<◌, ◌+◌, Bool, ℕ, List, length, Result, Ok, Err}
use Rattle.std.specs.Io.KnownBytes.{Appends}
use Rattle.n2k_table.specs.Table.{TableParts}
use Rattle.n2k_join.specs.Counts.{most_lines}
use Rattle.n2k_join.specs.declared.counts.Counts.{Counts}
use Rattle.n2k_run.specs.declared.fault.RunFault.{RunFault}
use Rattle.n2k_run.specs.declared.fault.RunFault.TheVariants.{Read, Write, Report, Memory, TooManyLines}
use Rattle.n2k_run.specs.Device.{HasFailed}
use Rattle.n2k_run.specs.Lines.{lines}
use Rattle.n2k_run.specs.Runs.{Devices}
use Rattle.n2k_run.specs.Writing.{AppendsPrefix}
use Rattle.n2k_encode_run.specs.Outcomes.{Outcome, GiveAll, counts_after, reports_from, texts}

-- how numbers are taken, and the counts of the lines so far
pub record EncodingParts : Type 0 where
  pub nearest : Bool
  pub counts : Counts

-- The lines of these bytes were taken: each gave its outcome, the output has gained exactly their texts and the errors
-- exactly their reports, with the numbers after those of the earlier lines, and they are counted.
pub record TakesMore (t : TableParts) (more : List ℕ) (old new : EncodingParts) (before after : Devices) : Type 0 where
  pub outcomes : List Outcome
  pub given : GiveAll t old.nearest (lines more) outcomes
  pub printed : Appends before.written after.written (texts outcomes)
  pub reported : Appends before.reported after.reported (reports_from (old.counts.lines + 1) outcomes)
  pub is : new ≡ record old { counts = counts_after old.counts outcomes }

-- a sink failed: the encoding is unchanged, and prefixes of the texts and of the reports of these lines were written
pub record BreaksMore (t : TableParts) (more : List ℕ) (old new : EncodingParts) (before after : Devices) : Type 0 where
  pub outcomes : List Outcome
  pub given : GiveAll t old.nearest (lines more) outcomes
  pub printed : AppendsPrefix before.written after.written (texts outcomes)
  pub reported : AppendsPrefix before.reported after.reported (reports_from (old.counts.lines + 1) outcomes)
  pub same : new ≡ old

-- How a call ends. If the lines are over the limit, or memory was refused, nothing was written and nothing has changed.
abbrev pub EncodesMore : {T : Type 0} → TableParts → List ℕ → EncodingParts → EncodingParts → Devices → Devices
    → Result T RunFault → Type 0
EncodesMore t more old new before after (Ok x) = TakesMore t more old new before after
EncodesMore t more old new before after (Err Read) = ⊥
EncodesMore t more old new before after (Err Write) =
    BreaksMore t more old new before after × HasFailed before.failed_writes after.failed_writes
EncodesMore t more old new before after (Err Report) =
    BreaksMore t more old new before after × HasFailed before.failed_reports after.failed_reports
EncodesMore t more old new before after (Err TooManyLines) =
    (new ≡ old) × (after ≡ before) × (most_lines < old.counts.lines + length (lines more))
EncodesMore t more old new before after (Err Memory) = (new ≡ old) × (after ≡ before)
