use Rattle.std.proofs.Common.{◌≡◌, ◌<◌, ◌≤◌, arith, refl, subst, sym, length, length-take, take}
use Rattle.std.proofs.lemmas.Result.{err_from_is_err_and}
use Rattle.n2k_run.specs.Runs.{Devices, seen}
use Rattle.n2k_encode_run.specs.Inner.Taking.{AreCounts, most_kept}
use Rattle.n2k_encode_run.proofs.Settling.{few_lines, read_end, reads_end, settled_end, settled_fault, settled_more, settled_so}
use Rattle.n2k_encode_run.proofs.encoder.Encoder.run.Given.{Over}
use Rattle.n2k_encode_run.proofs.encoder.Encoder.run.Goals as goal

abbrev devices : (g : Over) → g.row.R.Denot → g.row.W.Denot → g.row.E.Denot → Devices
devices g = seen g.R.Source g.W.Sink g.E.Sink

pub returns-in_err-count : goal.returns-in_err-count
returns-in_err-count g c =
    let p = err_from_is_err_and c.from_residual.result c.from_residual.ensures.1 in
    let failed = c.in_err-count.ensures.failed in
    let before = devices g c.args.reader.now c.args.writer.now c.args.reporter.now in
    let now = devices g c.loop-reads.reader c.loop-reads.writer c.loop-reads.reporter in
    let after = devices g c.read_block.new.reader c.loop-reads.writer c.loop-reads.reporter in
    rw (p.1, p.2, failed.0) (read_end c.args.self.now.table.now c.args.self.now.nearest before now c.loop-reads.room.kept.items c.loop-reads.ledger c.loop-reads._reads c.loop-reads.invariant.stands after failed.1 c.in_err-count.ensures.called failed.2 refl refl (refl, refl))

pub returns-in_err-settle : goal.returns-in_err-settle
returns-in_err-settle g c =
    let p = err_from_is_err_and c.from_residual-in_err-settle.result c.from_residual-in_err-settle.ensures.1 in
    let stands = c.loop-reads.invariant.stands in
    let read = c.in_ok-count.ensures in
    let bytes = take c.in_ok-count.count c.read_block.new.block in
    let before = devices g c.args.reader.now c.args.writer.now c.args.reporter.now in
    let now = devices g c.loop-reads.reader c.loop-reads.writer c.loop-reads.reporter in
    let after = devices g c.read_block.new.reader c.settle.new.writer c.settle.new.reporter in
    rw (p.1, p.2) (settled_fault c.args.self.now.table.now c.args.self.now.nearest before now after c.loop-reads.room.kept.items c.take_read-taken.new.room.kept.items c.loop-reads.ledger c.take_read-taken.new.ledger c.settle.new.self c.loop-reads._reads
    stands bytes (record { given = read.bytes; calls = read.called; none_failed = read.none_failed }) (λ none. read.end (omega (arith, none, read.bound, length-take c.in_ok-count.count c.read_block.new.block))) c.in_err-settle.ensures.counts c.take_read-taken.result _ (c.take_read-taken.ensures.taken stands.rest stands.no_feed stands.kept_is) c.in_err-settle.ensures.settled)

pub returns-then-count-eq0 : goal.returns-then-count-eq0
returns-then-count-eq0 g c =
    let stands = c.loop-reads.invariant.stands in
    let read = c.in_ok-count.ensures in
    let bytes = take c.in_ok-count.count c.read_block.new.block in
    let none : length bytes ≡ 0 = omega (arith, c.if-count-eq0.true, length-take c.in_ok-count.count c.read_block.new.block) in
    let before = devices g c.args.reader.now c.args.writer.now c.args.reporter.now in
    let now = devices g c.loop-reads.reader c.loop-reads.writer c.loop-reads.reporter in
    let after = devices g c.read_block.new.reader c.settle.new.writer c.settle.new.reporter in
    settled_end c.args.self.now.table.now c.args.self.now.nearest before now after c.loop-reads.room.kept.items c.take_read-taken.new.room.kept.items c.loop-reads.ledger c.take_read-taken.new.ledger c.settle.new.self c.loop-reads._reads
    stands bytes (record { given = read.bytes; calls = read.called; none_failed = read.none_failed }) (λ _. read.end (omega (arith, c.if-count-eq0.true))) c.in_ok-settle.ensures.counts c.take_read-taken.result none (c.take_read-taken.ensures.taken stands.rest stands.no_feed stands.kept_is)
    (few_lines c.take_read-taken.result c.take_read-taken.new.ledger.counts c.take_read-taken.ensures.counts) c.in_ok-settle.ensures.settled

pub loop-reads-preserved : goal.loop-reads-preserved
loop-reads-preserved g c =
    let t = c.args.self.now.table.now in
    let nearest = c.args.self.now.nearest in
    let kept = c.loop-reads.room.kept.items in
    let kept' = c.take_read-taken.new.room.kept.items in
    let l = c.loop-reads.ledger in
    let l' = c.take_read-taken.new.ledger in
    let l'' = c.settle.new.self in
    let stands = c.loop-reads.invariant.stands in
    let read = c.in_ok-count.ensures in
    let bytes = take c.in_ok-count.count c.read_block.new.block in
    let some : 0 < length bytes = omega (arith, c.if-count-eq0.false, read.bound, length-take c.in_ok-count.count c.read_block.new.block) in
    let before = devices g c.args.reader.now c.args.writer.now c.args.reporter.now in
    let now = devices g c.loop-reads.reader c.loop-reads.writer c.loop-reads.reporter in
    let after = devices g c.read_block.new.reader c.settle.new.writer c.settle.new.reporter in
    let taken = c.take_read-taken.result in
    let takes = c.take_read-taken.ensures.taken stands.rest stands.no_feed stands.kept_is in
    let settles = c.in_ok-settle.ensures.settled in
    let same = c.in_ok-settle.ensures.counts in
    let counts : AreCounts l'.counts = settled_so t nearest before now after kept kept' l l' l'' c.loop-reads._reads stands bytes (record { given = read.bytes; calls = read.called; none_failed = read.none_failed }) (λ none. absurd (omega (arith, some, none))) same (AreCounts l'.counts) taken some takes c.take_read-taken.ensures.counts settles in
    record {
      stands = settled_more t nearest before now after kept kept' l l' l'' c.loop-reads._reads stands bytes (record { given = read.bytes; calls = read.called; none_failed = read.none_failed }) (λ none. absurd (omega (arith, some, none))) same taken some takes
          (few_lines taken l'.counts c.take_read-taken.ensures.counts) settles c.in_ok-settle.ensures.none_pending;
      counts = subst AreCounts (sym same) counts;
      few = settled_so t nearest before now after kept kept' l l' l'' c.loop-reads._reads stands bytes (record { given = read.bytes; calls = read.called; none_failed = read.none_failed }) (λ none. absurd (omega (arith, some, none))) same (length kept' ≤ most_kept) taken some takes (c.take_read-taken.ensures.few some) settles;
    }

pub returns : goal.returns
returns g c =
    let before = devices g c.args.reader.now c.args.writer.now c.args.reporter.now in
    let now = devices g c.loop-reads.reader c.loop-reads.writer c.loop-reads.reporter in
    reads_end c.args.self.now.table.now c.args.self.now.nearest before now c.loop-reads.room.kept.items c.loop-reads.ledger c.loop-reads._reads c.loop-reads.invariant.stands (omega (arith, c.loop-reads-test.false))
