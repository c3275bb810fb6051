use Rattle.std.proofs.Common.{arith}
use Rattle.std.proofs.lemmas.Nat.Bits.{shr_and_one}
use Rattle.n2k_join.proofs.SlotLemmas.{is_some-slot}
use Rattle.n2k_join.proofs.piece.OpenGroup.has.Goals as goal

pub returns : goal.returns
returns c = grind (arith, shr_and_one, is_some-slot)
