use Rattle.std.proofs.Common.{◌++◌, ◌∙◌, ap, subst, sym, arith, length, length-take, take}
use Rattle.std.proofs.lemmas.Result.{err_from_is_err_and}
use Rattle.n2k_run.specs.Lines.{without_return}
use Rattle.n2k_encode_run.specs.Inner.Taking.{TakesBytes, most_kept}
use Rattle.n2k_encode_run.proofs.Feeding.{feed_begins, feeds_end, feeds_fault, feeds_line, line_kept}
use Rattle.n2k_encode_run.proofs.encoder.Encoder.feed.Goals as goal

pub loop-end-init : goal.loop-end-init
loop-end-init c = record {
  fed = λ part none is. feed_begins c.args.self.now.table.now c.args.self.now.nearest part c.args.bytes.now c.args.room.now.kept.items c.args.ledger.now none is;
  counts = c.requires.counts;
  few = c.requires.few;
}

pub returns-in_err-take_kept-clause-fed : goal.returns-in_err-take_kept-clause-fed
returns-in_err-take_kept-clause-fed c = λ part none is.
    let t = c.args.self.now.table.now in
    let nearest = c.args.self.now.nearest in
    let p = err_from_is_err_and c.from_residual-in_err-take_kept.result c.from_residual-in_err-take_kept.ensures.1 in
    let left = c.loop-end.left.now in
    let kept = c.loop-end.room.kept.items in
    let fed = c.loop-end.invariant.fed part none is in
    let mid = c.in_ok-keep.ensures ∙ ap (λ x. take most_kept (kept ++ x)) c.split_line.ensures.line in
    let chunk = fed.rest ++ take c.in-Some.end left in
    let takes = c.in_err-take_kept.ensures.taken chunk (line_kept t nearest part c.args.bytes.now left kept c.keep.new.kept.items c.in-Some.end c.args.ledger.now c.loop-end.ledger fed mid) in
    rw (p.1, p.2) (feeds_fault t nearest part c.args.bytes.now left kept c.take_kept.new.room.kept.items c.in-Some.end (without_return chunk) c.args.ledger.now c.loop-end.ledger c.take_kept.new.ledger _ fed c.in-Some.ensures takes)

pub loop-end-preserved : goal.loop-end-preserved
loop-end-preserved c =
    let t = c.args.self.now.table.now in
    let nearest = c.args.self.now.nearest in
    let left = c.loop-end.left.now in
    let kept = c.loop-end.room.kept.items in
    let end = c.in-Some.end in
    let mid = c.in_ok-keep.ensures ∙ ap (λ x. take most_kept (kept ++ x)) c.split_line.ensures.line in
    record {
      fed = λ part none is. subst (λ x. TakesBytes t nearest part c.args.bytes.now x c.take_kept.new.room.kept.items c.args.ledger.now c.take_kept.new.ledger) (sym c.split_line.ensures.rest)
          (feeds_line t nearest part c.args.bytes.now left kept c.keep.new.kept.items c.take_kept.new.room.kept.items end c.args.ledger.now c.loop-end.ledger c.take_kept.new.ledger (c.loop-end.invariant.fed part none is) c.in-Some.ensures mid c.in_ok-take_kept.ensures.none_kept c.in_ok-take_kept.ensures.taken);
      counts = c.in_ok-take_kept.ensures.counts;
      few = omega (arith, ap length c.in_ok-take_kept.ensures.none_kept);
    }

pub returns-clause-fed : goal.returns-clause-fed
returns-clause-fed c = λ part none is.
    feeds_end c.args.self.now.table.now c.args.self.now.nearest part c.args.bytes.now c.loop-end.left.now c.loop-end.room.kept.items c.keep-2.new.kept.items c.args.ledger.now c.loop-end.ledger (c.loop-end.invariant.fed part none is) c.in_default.ensures c.in_ok-keep-2.ensures

pub returns-clause-few : goal.returns-clause-few
returns-clause-few c = omega (arith, ap length c.in_ok-keep-2.ensures, length-take most_kept (c.loop-end.room.kept.items ++ c.loop-end.left.now))
