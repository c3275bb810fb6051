use Rattle.std.proofs.Common.{◌≡◌, take, take-take, ap, arith, Some, refl, sym, ◌∙◌, IsTrue}
use Rattle.n2k_wire.specs.Packet.{is_stamp}
use Rattle.n2k_wire.specs.Inner.Candump.{stamp_after}
use Rattle.n2k_wire.proofs.SecondCaches.{first_chunk, stamped_text}
use Rattle.n2k_wire.proofs.candump_fast.SecondCache.stamp_after.Goals as goal
use Rattle.n2k_wire.proofs.candump_fast.SecondCache.stamp_after.Goals.{After-with_millis}

stamped : (c : After-with_millis) → (stamp_after c.args.line.now ≡ Some (c.with_millis.result, c.in_ok-text.text.now)) × IsTrue (is_stamp c.with_millis.result)
stamped c =
    let prefix = c.in_ok-prefix.ensures.cases in
    let fraction = c.in_ok-fraction.ensures.cases in
    let outer = first_chunk 12 c.args.line.now c.in_ok-prefix.prefix.now c.in_ok-prefix.after.now prefix.0 prefix.1 prefix.2 in
    let inner = first_chunk 6 c.in_ok-prefix.after.now c.in_ok-fraction.fraction.now c.in_ok-fraction.after.now fraction.0 fraction.1 fraction.2 in
    let cache = c.advance_to.new.self in
    let window : take 6 c.in_ok-eight.eight.now ≡ c.in_ok-fraction.fraction.now = ap (take 6) c.in_ok-eight.ensures.cases.same ∙ take-take 6 8 c.in_ok-prefix.after.now (omega arith) ∙ sym fraction.0 in
    let digits = c.begins_with_digits.ensures c.if-not-begins_with_digits.false in
    let line_is = outer.1 ∙ (rw (← inner.1, c.in_ok-advance_to.ensures) refl) in
    stamped_text c.args.line.now cache.prefix c.in_ok-fraction.fraction.now c.in_ok-fraction.after.now c.in_ok-text.text.now cache.text c.with_millis.result cache.seconds
    cache.is_prefix cache.seconds_fit cache.is_text (rw window at digits) inner.0 line_is c.in_ok-text.ensures c.with_millis.ensures

pub returns-clause-value : goal.returns-clause-value
returns-clause-value c = (stamped (goal.at.returns-clause-value c).After-with_millis).0

pub returns-clause-stamp : goal.returns-clause-stamp
returns-clause-stamp c = (stamped (goal.at.returns-clause-stamp c).After-with_millis).1
