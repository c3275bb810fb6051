use Rattle.std.proofs.Common.{◌≡◌, ◌<◌, ◌^◌, length, ap, sym, arith}
use Rattle.n2k_wire.proofs.SecondCaches.{prefix_parts, prefix_read}
use Rattle.n2k_wire.proofs.FastStamps.{follows}
use Rattle.n2k_wire.proofs.candump_fast.SecondCache.recompute.Goals as goal

pub split_at-requires : goal.split_at-requires
split_at-requires c = omega (arith, c.told-prefix, ap length (follows 40 c.args.prefix.now c.in_ok-inner.inner.now c.in_ok-inner.ensures))

pub invariant_of-self-clause-is_prefix : goal.invariant_of-self-clause-is_prefix
invariant_of-self-clause-is_prefix c =
    let digits = c.split_at.result.0.now in
    let is = prefix_parts c.args.prefix.now c.in_ok-inner.inner.now digits c.split_at.result.1.now c.in_ok-after_byte.field-0.now c.told-prefix c.in_ok-inner.ensures c.split_at.ensures.front c.split_at.ensures.back c.in_ok-after_byte.ensures in
    let ten : length digits ≡ 10 = omega (arith, c.split_at.ensures.front_len) in
    let bound : c.in_ok-seconds.seconds < 10 ^ 10 = rw ten at c.in_ok-seconds.ensures.bound in
    prefix_read c.args.prefix.now digits c.in_ok-seconds.seconds is (sym c.in_ok-seconds.ensures.value) (omega (arith, bound))
