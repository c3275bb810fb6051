-- What the run of `encode` promises.
use Rattle.std.specs.Prelude.{◌≡◌, ◌<◌, ◌≤◌, ℕ, Bool, List, ◌++◌, length, IfSome, Result, Ok, Err}
use Rattle.std.specs.Io.{IsEmptyOrEndsWith}
use Rattle.std.specs.Io.KnownBytes.{Appends, Consumes, IsAtEnd}
use Rattle.n2k_table.specs.Table.{TableParts}
use Rattle.n2k_join.specs.declared.counts.Counts.{Counts}
use Rattle.n2k_join.specs.Counts.{most_lines}
use Rattle.n2k_run.specs.declared.fault.RunFault.{RunFault}
use Rattle.n2k_run.specs.declared.fault.RunFault.TheVariants.{Read, Write, Report, Memory, TooManyLines}
use Rattle.n2k_run.specs.Lines.{line_feed, lines, whole_lines}
use Rattle.n2k_run.specs.Reading.{ReadsBytes}
use Rattle.n2k_run.specs.Runs.{Devices, IsOfDevice}
use Rattle.n2k_run.specs.Writing.{AppendsPrefix}
use Rattle.n2k_encode_run.specs.Outcomes.{Outcome, GiveAll, counts_of, reports_from, texts}

-- The lines of these bytes were taken: each gave its outcome, the output has gained exactly their texts and the errors
-- exactly their reports, and the counts are theirs.
pub record Takes (t : TableParts) (nearest : Bool) (before after : Devices) (counts : Counts) (bytes : List ℕ)
    : Type 0 where
  pub outcomes : List Outcome
  pub given : GiveAll t nearest (lines bytes) outcomes
  pub numbered : length outcomes ≤ most_lines
  pub printed : Appends before.written after.written (texts outcomes)
  pub reported : Appends before.reported after.reported (reports_from 1 outcomes)
  pub counted : counts ≡ counts_of outcomes

-- the source was read to its end, and all lines were taken
pub record IsWhole (t : TableParts) (nearest : Bool) (before after : Devices) (counts : Counts) : Type 0 where
  pub came : List ℕ
  pub given : Consumes before.left after.left came
  pub at_end : IsAtEnd after.left
  pub taken : Takes t nearest before after counts came

-- after Read: the lines whose line feed came were taken
pub record IsCut (t : TableParts) (nearest : Bool) (before after : Devices) (counts : Counts) : Type 0 where
  pub came : List ℕ
  pub given : Consumes before.left after.left came
  pub taken : Takes t nearest before after counts (whole_lines came)

-- after TooManyLines: the line limit is reached, and more bytes follow
pub record IsFull (t : TableParts) (nearest : Bool) (before after : Devices) (counts : Counts) : Type 0 where
  pub prefix : List ℕ
  pub more : List ℕ
  pub given : Consumes before.left after.left (prefix ++ more)
  pub ends : IsEmptyOrEndsWith prefix line_feed
  pub some : 0 < length more
  pub full : counts.lines ≡ most_lines
  pub taken : Takes t nearest before after counts prefix

-- After Write, Report and Memory: the errors have gained all reports up to some line, and perhaps a prefix of the later
-- ones. The output has gained a prefix of the texts up to that line: no text is written if the report of its own line
-- or of an earlier one is missing.
pub record BreaksOff (t : TableParts) (nearest : Bool) (before after : Devices) : Type 0 where
  pub taken : List (List ℕ)
  pub lead : IfSome before.left (λ log. (more : List (List ℕ)) × (lines log ≡ taken ++ more))
  pub reported_of : List Outcome
  pub others : List Outcome
  pub given : GiveAll t nearest taken (reported_of ++ others)
  pub printed : AppendsPrefix before.written after.written (texts reported_of)
  pub reported : (more : List ℕ) × Appends before.reported after.reported (reports_from 1 reported_of ++ more)
  pub report_prefix : AppendsPrefix before.reported after.reported (reports_from 1 (reported_of ++ others))

-- how a run ends
abbrev pub EncodingEnds : {T : Type 0} → TableParts → Bool → Devices → Devices → Counts → Result T RunFault → Type 0
EncodingEnds t nearest before after counts (Ok x) = IsWhole t nearest before after counts
EncodingEnds t nearest before after counts (Err Read) = IsCut t nearest before after counts
EncodingEnds t nearest before after counts (Err TooManyLines) = IsFull t nearest before after counts
EncodingEnds t nearest before after counts (Err Write) = BreaksOff t nearest before after
EncodingEnds t nearest before after counts (Err Report) = BreaksOff t nearest before after
EncodingEnds t nearest before after counts (Err Memory) = BreaksOff t nearest before after

-- what the run of `encode` promises
pub record Encodes {T : Type 0} (t : TableParts) (nearest : Bool) (before after : Devices) (counts : Counts)
    (result : Result T RunFault) : Type 0 where
  pub ends : EncodingEnds t nearest before after counts result
  pub device : IsOfDevice before after result
  -- the source was called at most once more than the number of bytes that it gave
  pub reads : ReadsBytes 1 before.left after.left before.calls after.calls
