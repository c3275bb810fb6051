use Rattle.std.proofs.Common.{refl, ap, ◌∙◌, length, subst, arith}
use Rattle.std.proofs.lemmas.Result.{err_from_is_err_and}
use Rattle.n2k_run.specs.Blocks.{BlocksView, HasNoFeed, unanswered}
use Rattle.n2k_run.proofs.Feeds.{feed_or_none}
use Rattle.n2k_run.proofs.Finding.{reads_none, reads_round, reads_same}
use Rattle.n2k_run.proofs.blocks.Blocks.find_end.Goals as goal

pub loop-size-init : goal.loop-size-init
loop-size-init g c = record { reads = reads_none _ _ _; quiet = λ _. (refl, refl); none_failed = refl }

pub returns-in_err-read_some-clause-reads : goal.returns-in_err-read_some-clause-reads
returns-in_err-read_some-clause-reads g c =
    let none : HasNoFeed c.loop-size.self.kept = subst HasNoFeed c.kept.ensures c.in_default.ensures in
    let e = c.read_some.ensures in
    let same = ap length c.in_err-read_some.ensures.failed in
    let reads = reads_round 1 c.args.self.now c.loop-size.self c.make_room.new.self c.read_some.new.self _ _ _ _ _ _ c.loop-size.invariant.reads none c.make_room.ensures.stays c.make_room.ensures.reads e.gains (omega (arith, same)) e.passing e.reads e.called in
    let p = err_from_is_err_and c.from_residual.result c.from_residual.ensures.1 in
    rw p.1 reads

pub returns-in_err-read_some-clause-quiet : goal.returns-in_err-read_some-clause-quiet
returns-in_err-read_some-clause-quiet g c = λ feed.
    let none : HasNoFeed c.loop-size.self.kept = subst HasNoFeed c.kept.ensures c.in_default.ensures in
    absurd (feed_or_none c.args.self.now.kept feed (subst (λ (h : BlocksView). HasNoFeed h.kept) (c.loop-size.invariant.quiet feed).1 none))

pub returns-then-branch-eq0-clause-reads : goal.returns-then-branch-eq0-clause-reads
returns-then-branch-eq0-clause-reads g c =
    let none : HasNoFeed c.loop-size.self.kept = subst HasNoFeed c.kept.ensures c.in_default.ensures in
    let e = c.read_some.ensures in
    let same = ap length (c.in_ok-read_some.ensures.end c.if-branch-eq0.true).0 in
    let reads = reads_round 1 c.args.self.now c.loop-size.self c.make_room.new.self c.read_some.new.self _ _ _ _ _ _ c.loop-size.invariant.reads none c.make_room.ensures.stays c.make_room.ensures.reads e.gains (omega (arith, same)) e.passing e.reads e.called in
    let is = c.self-in-loop-size.view_is in
    reads_same 1 1 c.args.self.now c.read_some.new.self _ _ _ _ _ reads (ap (λ (h : BlocksView). unanswered h) is) (ap (λ (h : BlocksView). h.reads) is) (omega arith)

pub returns-then-branch-eq0-clause-quiet : goal.returns-then-branch-eq0-clause-quiet
returns-then-branch-eq0-clause-quiet g c = λ feed.
    let none : HasNoFeed c.loop-size.self.kept = subst HasNoFeed c.kept.ensures c.in_default.ensures in
    absurd (feed_or_none c.args.self.now.kept feed (subst (λ (h : BlocksView). HasNoFeed h.kept) (c.loop-size.invariant.quiet feed).1 none))

pub loop-size-preserved : goal.loop-size-preserved
loop-size-preserved g c =
    let none : HasNoFeed c.loop-size.self.kept = subst HasNoFeed c.kept.ensures c.in_default.ensures in
    let e = c.read_some.ensures in
    record {
      reads = reads_round 0 c.args.self.now c.loop-size.self c.make_room.new.self c.read_some.new.self _ _ _ _ _ _ c.loop-size.invariant.reads none c.make_room.ensures.stays c.make_room.ensures.reads e.gains (omega (arith, c.in_ok-read_some.ensures.count, c.if-branch-eq0.false)) e.passing e.reads e.called;
      quiet = λ feed. absurd (feed_or_none c.args.self.now.kept feed (subst (λ (h : BlocksView). HasNoFeed h.kept) (c.loop-size.invariant.quiet feed).1 none));
      none_failed = c.in_ok-read_some.ensures.counted ∙ c.loop-size.invariant.none_failed;
    }
