use Rattle.std.proofs.Common.{◌+◌, arith}
use Rattle.std.proofs.lemmas.Simd.{take_more_put_chunk}
use Rattle.n2k_wire.proofs.plain_fast.put_eight.Goals as goal

pub returns : goal.returns
returns c = take_more_put_chunk c.args.at c.args.bytes.now c.args.eight.now (c.args.at + 8) (omega (arith, c.told-eight)) c.requires
