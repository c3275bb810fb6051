-- The output, reports and counts of `plain` for a log.
use Rattle.std.specs.Prelude.{ℕ, List, [], length, count_by}
use Rattle.std.specs.List.{flat_map}
use Rattle.n2k_wire.specs.declared.entry.Entry.{Entry}
use Rattle.n2k_wire.specs.declared.entry.Entry.TheVariants.{Frame, Whole}
use Rattle.n2k_wire.specs.declared.entry.Packing.TheVariants.{Frames}
use Rattle.n2k_wire.specs.Texts.{plain_text}
use Rattle.n2k_join.specs.declared.counts.Counts.{Counts}
use Rattle.n2k_run.specs.Entries.{entries, is_bad, is_packet}
use Rattle.n2k_run.specs.Reports.{bad_reports_from}
use Rattle.n2k_run.specs.Runs.{Output}

-- the plain line of a frame or of a whole message
abbrev pub entry_line : Entry → List ℕ
entry_line (Frame packet) = plain_text packet
entry_line (Whole packet) = plain_text packet
entry_line _ = []

-- the plain lines of these entries, in their order
abbrev pub plain_lines : List Entry → List ℕ
plain_lines es = flat_map entry_line es

-- a report for each bad line
abbrev pub plain_reports_of : List Entry → List ℕ
plain_reports_of es = bad_reports_from 1 es

-- Lines, printed lines, and bad lines. Skipped lines count as lines; there are no unknown PGNs and no groups.
abbrev pub plain_counts_of : List Entry → Counts
plain_counts_of es = record {
  lines = length es;
  messages = count_by is_packet es;
  bad = count_by is_bad es;
  unknown = 0;
  broken = 0;
  held = 0;
}

abbrev pub plain_output : Output
plain_output = record { packing = Frames; counted = 0; texts = plain_lines; reports = plain_reports_of }

-- the output, reports and counts of `plain` for a log's bytes
abbrev pub plain_out : List ℕ → List ℕ
plain_out log = plain_lines (entries Frames log)

abbrev pub plain_reports : List ℕ → List ℕ
plain_reports log = plain_reports_of (entries Frames log)

abbrev pub plain_counts : List ℕ → Counts
plain_counts log = plain_counts_of (entries Frames log)
