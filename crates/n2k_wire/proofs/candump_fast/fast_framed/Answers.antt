use Rattle.std.proofs.Common.{arith}
use Rattle.n2k_wire.proofs.SecondCaches.{first_chunk}
use Rattle.n2k_wire.proofs.FastFrames.{by_place}
use Rattle.n2k_wire.proofs.candump_fast.fast_framed.Goals as goal

pub returns-clause-value : goal.returns-clause-value
returns-clause-value c =
    let word = c.in_ok-digits.ensures.cases in
    let chunk = first_chunk 8 c.in_ok-inner.inner.now c.in_ok-digits.digits.now c.in_ok-digits.after.now word.0 word.1 word.2 in
    let is = by_place c.args.text.now c.in_ok-named.named.now c.split_at.result.0.now c.split_at.result.1.now c.in_ok-inner.inner.now c.in_ok-digits.digits.now c.in_ok-digits.after.now c.in_ok-data.data.now c.in_ok-at.at
    c.in_ok-named.ensures c.in_ok-at.ensures c.split_at.ensures.front c.split_at.ensures.back c.split_at.ensures.front_len (omega arith) (omega arith)
    c.in_ok-inner.ensures word.0 word.1 chunk.0 c.in_ok-identifier.ensures.hexadecimal c.in_ok-data.ensures in
    (c.in_ok-digits.digits.now, is, c.in_ok-identifier.ensures.value)
