-- The parse is that of the definition, so the lemmas on the definition say what is asked.
use Rattle.std.proofs.Common.{rules, Some, Ok, Err}
use Rattle.n2kdec.specs.declared.fault.Fault.TheVariants as fault
use Rattle.n2kdec.proofs.run.AskedLemmas.{asked_by_refusal, asked_command, asked_fault, asked_words, named_by_matches}
use Rattle.n2kdec.proofs.command_line.request.Goals as goal

pub returns-in-Ok-command_of-clause-asked : goal.returns-in-Ok-command_of-clause-asked
returns-in-Ok-command_of-clause-asked c =
    asked_command _ _ c.in-Ok.ensures.matches.1 c.in-Ok.ensures.matches.0 c.in-Ok-command_of.command c.in-Ok-command_of.ensures

pub returns-in-Ok-command_of-clause-taken : goal.returns-in-Ok-command_of-clause-taken
returns-in-Ok-command_of-clause-taken c takes =
    named_by_matches _ _ c.in-Ok.ensures.matches.1 c.in-Ok.ensures.matches.0 (Ok c.in-Ok-command_of.command) c.in-Ok-command_of.ensures

pub returns-in-Err-Words-clause-asked : goal.returns-in-Err-Words-clause-asked
returns-in-Err-Words-clause-asked c =
    asked_words _ _ c.in-Ok.ensures.matches.1 c.in-Ok.ensures.matches.0 (Some c.lines_of.result) (search rules) c.lines_of.ensures

pub returns-in-Err-Words-clause-taken : goal.returns-in-Err-Words-clause-taken
returns-in-Err-Words-clause-taken c takes =
    named_by_matches _ _ c.in-Ok.ensures.matches.1 c.in-Ok.ensures.matches.0 (Err fault.Words) (search rules)

pub returns-in-Ok : goal.returns-in-Ok
returns-in-Ok c = record {
  asked = asked_fault _ _ c.in-Ok.ensures.matches.1 c.in-Ok.ensures.matches.0 c.in-Err-command_of.fault (search rules) c.in-Err-command_of.ensures;
  taken = λ takes. named_by_matches _ _ c.in-Ok.ensures.matches.1 c.in-Ok.ensures.matches.0 (Err c.in-Err-command_of.fault) c.in-Err-command_of.ensures;
}

pub returns-clause-asked : goal.returns-clause-asked
returns-clause-asked c =
    asked_by_refusal _ c.in-Err.error c.kind.result c.kind.ensures c.help_of.result c.in-Err.ensures.kinds c.help_of.ensures.answers
