use Rattle.std.proofs.Common.{◌≡◌, ◌+◌, ◌-◌, ◌*◌, ◌/◌, ◌++◌, take, sym, subst, arith}
use Rattle.n2k_wire.specs.Plain.{columns}
use Rattle.n2k_wire.specs.Inner.Plain.{AreRead}
use Rattle.n2k_wire.proofs.SecondCaches.{first_chunk}
use Rattle.n2k_wire.proofs.PlainFast.{all_taken, read_before, read_more}
use Rattle.n2k_wire.proofs.plain_fast.read_columns.Goals as goal

pub loop-i-preserved : goal.loop-i-preserved
loop-i-preserved c =
    let all = columns c.args.text.now in
    let text = c.loop-i.rest.now in
    let chunk = c.in_ok-chunk.chunk.now in
    let after = c.in_ok-chunk.more.now in
    let eight = c.in_ok-eight_columns.field-0 in
    let rest = c.in_ok-rest.rest.now in
    let cases = c.in_ok-chunk.ensures.cases in
    let parts = first_chunk 23 text chunk after cases.0 cases.1 cases.2 in
    let next = read_before text chunk eight after rest c.in_ok-eight_columns.ensures parts.1 c.in_ok-rest.ensures in
    let at : 8 * c.loop-i.i + 8 ≡ 8 * (c.loop-i.i + 1) = omega arith in
    let bytes : take (8 * (c.loop-i.i + 1)) c.put_eight.new.bytes ≡ take (8 * c.loop-i.i) c.loop-i.bytes ++ eight = rw at at c.put_eight.ensures in
    subst (λ bs. AreRead all bs (columns rest)) (sym bytes) (read_more all (columns text) (columns rest) (take (8 * c.loop-i.i) c.loop-i.bytes) eight c.loop-i.invariant next)

pub returns : goal.returns
returns c =
    let end : c.loop-i.i ≡ (c.args.len - 1) / 8 = omega arith in
    all_taken (columns c.args.text.now) (columns c.loop-i.rest.now) c.loop-i.bytes c.put_eight-2.new.bytes c.in_ok-last.last (8 * ((c.args.len - 1) / 8)) c.args.len
    (rw end at c.loop-i.invariant) c.in_ok-last.ensures c.put_eight-2.ensures (omega arith) (omega arith) (omega arith) (omega arith)
