use Rattle.n2k_join.proofs.ValidStates.{parsed_some, parsed_none, untrue}
use Rattle.n2k_join.proofs.saved.resume.parsed.Goals as goal

pub returns-in-Ok : goal.returns-in-Ok
returns-in-Ok c = parsed_some c.args.bytes.now _ c.in-Ok.ensures.ok.0 c.in-Ok.ensures.ok.1

pub returns-in-Err-2 : goal.returns-in-Err-2
returns-in-Err-2 c = λ _. parsed_none c.args.bytes.now (c.in-Err.ensures.err (λ memory. untrue c.is_memory.result c.if-is_memory.false (c.is_memory.ensures.1 memory)))
