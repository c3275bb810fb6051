use Rattle.std.proofs.Common.{◌≡◌, map, take, string_bytes}
use Rattle.clap.specs.Walk.{texts}
use Rattle.n2kdec.proofs.tests.memory_machine.copies.Given as goal

abbrev pub invariant-loop-text : goal.invariant-loop-text
invariant-loop-text l = map string_bytes l.all.items ≡ texts (take l.text-index l.words)
