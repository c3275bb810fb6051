-- The output and reports of `decode` for a log: the JSON lines of its messages, its broken groups and its bad lines,
-- each at the line that gives it.
use Rattle.std.specs.Prelude.{ℕ, ◌+◌, Bool, List, [], ◌++◌, length, Option, Some, None, option_and_then}
use Rattle.std.specs.List.{flat_map, range_with_len}
use Rattle.n2k_table.specs.Json.{json}
use Rattle.n2k_table.specs.Table.{TableParts, kind}
use Rattle.n2k_wire.specs.declared.entry.Entry.{Entry}
use Rattle.n2k_wire.specs.declared.entry.BadCause.{BadCause}
use Rattle.n2k_wire.specs.Packet.{PacketParts}
use Rattle.n2k_join.specs.Messages.{message, broken, cause_in, entry_at, numbers}
use Rattle.n2k_join.specs.State.{State, next_line, step_given, step_after}
use Rattle.n2k_run.specs.declared.options.Options.{Options}
use Rattle.n2k_run.specs.Entries.{entries}
use Rattle.n2k_run.specs.Fold.{Fold}
use Rattle.n2k_run.specs.Reports.{line_report}
use Rattle.n2k_run.specs.Runs.{Output}

-- the JSON line of a message, if there is one
abbrev pub message_line : TableParts → Bool → Option PacketParts → List ℕ
message_line t empty None = []
message_line t empty (Some packet) = json t packet empty

-- the text of a line of the log
abbrev pub text_of_line : TableParts → Options → List Entry → ℕ → List ℕ
text_of_line t o es i = message_line t o.empty (message o.window (kind t) es i)

-- why a line of the log is bad
abbrev pub cause_at : TableParts → List Entry → ℕ → Option BadCause
cause_at t es i = option_and_then (cause_in (kind t)) (entry_at es i)

-- the reports of a line: the groups that it breaks, then its cause
abbrev pub report_at : TableParts → Options → List Entry → ℕ → List ℕ
report_at t o es i = line_report i (broken o.window (kind t) es i) (cause_at t es i)

-- the JSON lines of the messages of a log, in the order of the lines that give them
abbrev pub out_of : TableParts → Options → List Entry → List ℕ
out_of t o es = flat_map (text_of_line t o es) (numbers es)

-- the reports of a log, in the order of its lines
abbrev pub reports_of : TableParts → Options → List Entry → List ℕ
reports_of t o es = flat_map (report_at t o es) (numbers es)

-- the JSON lines, and the reports, of a log's bytes
unfoldable pub out : TableParts → Options → List ℕ → List ℕ
out t o log = out_of t o (entries o.packing log)

unfoldable pub reports : TableParts → Options → List ℕ → List ℕ
reports t o log = reports_of t o (entries o.packing log)

-- the numbers of the lines that come after these
abbrev pub numbers_after : List Entry → List Entry → List ℕ
numbers_after prefix es = range_with_len (length prefix + 1) (length es)

-- The output of a run over the entries of its log, after the entries `prefix`: for each line, the output that the whole
-- log gives.
abbrev pub output_after : TableParts → Options → List Entry → Output
output_after t o prefix = record {
  packing = o.packing;
  counted = length prefix;
  texts = λ es. flat_map (text_of_line t o (prefix ++ es)) (numbers_after prefix es);
  reports = λ es. flat_map (report_at t o (prefix ++ es)) (numbers_after prefix es);
}

-- a run's output, entry by entry, from any state of a join
abbrev pub join_fold : TableParts → Bool → Fold State
join_fold t empty = record {
  text = λ s e. message_line t empty (step_given (kind t) s e).message;
  report = λ s e. line_report (next_line s) (step_given (kind t) s e).broken (step_given (kind t) s e).cause;
  after = step_after (kind t);
  lines = λ s. s.counts.lines;
}
