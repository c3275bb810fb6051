use Rattle.std.proofs.Common.{◌≡◌, drop}
use Rattle.n2kdec.specs.Tests.MemoryMachine.{bytes_under}
use Rattle.n2kdec.proofs.tests.memory_machine.text_under.Given as goal

abbrev pub invariant-loop-own : goal.invariant-loop-own
invariant-loop-own l = bytes_under l.name l.files ≡ bytes_under l.name (drop l.own-index l.files)
