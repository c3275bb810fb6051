use Rattle.std.proofs.Common.{◌≡◌, take, ap, ◌∙◌, Some, None, rules}
use Rattle.n2k_wire.specs.Identifier.{join}
use Rattle.n2k_wire.specs.Inner.Stamp.{after_millis}
use Rattle.n2k_wire.proofs.CandumpLemmas.{head_is, no_id}
use Rattle.n2k_wire.proofs.candump_writer.CandumpLines.set_head.Goals as goal

pub returns-in_default-join_id-clause-fault : goal.returns-in_default-join_id-clause-fault
returns-in_default-join_id-clause-fault c =
    let none : join c.args.packet.now.id ≡ None = search rules in
    λ payload. no_id c.args.self.now _ (record c.args.packet.now { payload = payload }) (rw c.stamp.ensures.value at c.in-Some.ensures.some) none

pub returns-clause-ok : goal.returns-clause-ok
returns-clause-ok c =
    let after : c.self.inside.after ≡ after_millis c.args.self.now = c.self.invariant.1 ∙ ap after_millis c.self.view_is in
    let joined : join c.args.packet.now.id ≡ Some c.in-Some-join_id.identifier = search rules in
    head_is c.args.self.now c.advance_to.new.self.line (take 3 c.in-Some.millis.now) c.self.inside.after _ _ _ _ _ _ c.in-Some-join_id.identifier c.args.packet.now
    (rw c.stamp.ensures.value at c.in-Some.ensures.some) joined after c.to_be_bytes.ensures c.put-at.ensures.bytes c.put-at-2.ensures.bytes c.put-at-3.ensures.bytes c.put_upper-at.ensures.bytes c.put-head-inside.ensures.bytes
