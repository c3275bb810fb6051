-- What a handle does with the bytes of a log, and what these give.
use Rattle.std.specs.Prelude.{◌≡◌, ℕ, Bool, List}
use Rattle.n2k_table.specs.Table.{TableParts, kind}
use Rattle.n2k_join.specs.Messages.{counts}
use Rattle.n2k_join.specs.declared.counts.Counts.{Counts}
use Rattle.n2k_run.specs.declared.options.Options.{Options}
use Rattle.n2k_run.specs.Decoded.{out, reports}
use Rattle.n2k_run.specs.Entries.{entries}
use Rattle.n2k_run.specs.Lines.{lines}
use Rattle.n2k_encode_run.specs.Outcomes.{Outcome, GiveAll, counts_of, reports_from, texts}

-- It decodes a log with these options, or encodes lines of JSON, with exact or with nearest numbers.
pub data Job : Type 0 where
  decoding : Options → Job
  encoding : Bool → Job

-- it decodes
abbrev pub IsDecoding : Job → Type 0
IsDecoding (decoding o) = Unit {0}
IsDecoding (encoding nearest) = ⊥

-- the output: the lines of JSON of `n2kdec decode`, or the plain lines of `n2kdec encode`
abbrev pub IsOutput : TableParts → Job → List ℕ → List ℕ → Type 0
IsOutput t (decoding o) bytes text = out t o bytes ≡ text
IsOutput t (encoding nearest) bytes text = (os : List Outcome) × GiveAll t nearest (lines bytes) os × (texts os ≡ text)

-- its reports
abbrev pub AreReports : TableParts → Job → List ℕ → List ℕ → Type 0
AreReports t (decoding o) bytes text = reports t o bytes ≡ text
AreReports t (encoding nearest) bytes text =
    (os : List Outcome) × GiveAll t nearest (lines bytes) os × (reports_from 1 os ≡ text)

-- its counts
abbrev pub AreCounts : TableParts → Job → List ℕ → Counts → Type 0
AreCounts t (decoding o) bytes c = c ≡ counts o.window (kind t) (entries o.packing bytes)
AreCounts t (encoding nearest) bytes c = (os : List Outcome) × GiveAll t nearest (lines bytes) os × (c ≡ counts_of os)
