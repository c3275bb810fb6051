-- What is said of a log that has another form.
use Rattle.std.specs.Prelude.{◌==◌, ◌&&◌, ◌++◌, nat_lt, ℕ, Bool, List, [], codes}
use Rattle.n2k_join.specs.declared.counts.Counts.{Counts}
use Rattle.n2kdec.specs.declared.command_line.asked.ParsedArgs.{ParsedArgs}
use Rattle.n2kdec.specs.declared.command_line.asked.ParsedArgs.TheVariants.{Command}
use Rattle.n2kdec.specs.declared.command_line.asked.Subcommand.{Subcommand}
use Rattle.n2kdec.specs.declared.command_line.asked.Subcommand.TheVariants.{Encode}

-- A log is taken to have another form: 100 of its lines are bad, or more, and none is good: none gave a message, is
-- counted as unknown, or stood in a group.
abbrev pub has_other_form : Counts → Bool
has_other_form counts =
    nat_lt 99 counts.bad && counts.messages == 0 && counts.unknown == 0 && counts.broken == 0 && counts.held == 0

-- What is said on a terminal after the summary of such a log. Counts can't tell it from one whose table is wrong (B7,
-- B8), so it is said of neither that it is so. `encode` reads lines of JSON.
abbrev pub hint_of : Subcommand → List ℕ
hint_of (Encode nearest) = codes "n2kdec: no line was good: encode reads one JSON message a line, as decode and jq -c print them; "
    ++ codes "docs/GUIDE.md, under Edit and write messages, says what to do\n"
hint_of _ = codes "n2kdec: no line was good: if the log has another form, n2k FILE names it; "
    ++ codes "docs/GUIDE.md, under All lines are bad, says what to do\n"

abbrev pub hint : ParsedArgs → List ℕ
hint (Command command) = hint_of command.task
hint _ = []
