use Rattle.std.proofs.Common.{arith, ◌≡◌, Option, Some, None, Ok, Err}
use Rattle.serde_json.specs.Data.{Data}
use Rattle.n2k_wire.specs.Steps.{or_cause}
use Rattle.n2k_join.specs.declared.fault.StateFault.TheVariants.{NotJson}
use Rattle.n2k_join.proofs.ValidStates.{parsed_none, parsed_some, untrue}
use Rattle.n2kdec.proofs.run.difference.parsed.Goals as goal

value : (read : Option Data) (d : Data) → or_cause NotJson read ≡ Ok d → Some d ≡ read
value read d is = grind arith

no_value : (read : Option Data) → or_cause NotJson read ≡ Err NotJson → None ≡ read
no_value read is = grind arith

pub returns-in-Ok : goal.returns-in-Ok
returns-in-Ok c = value _ _ (parsed_some c.args.state.now _ c.in-Ok.ensures.ok.0 c.in-Ok.ensures.ok.1)

pub returns-in-Err-2 : goal.returns-in-Err-2
returns-in-Err-2 c = no_value _ (parsed_none c.args.state.now (c.in-Err.ensures.err (λ memory. untrue c.is_memory.result c.if-is_memory.false (c.is_memory.ensures.1 memory))))
