use Rattle.std.proofs.Common.{◌≡◌, ◌∙◌, ap, subst}
use Rattle.n2k_run.specs.Lines.{without_return}
use Rattle.n2k_encode_run.specs.Inner.Taking.{TakesLine}
use Rattle.n2k_encode_run.proofs.Feeding.{takes_line_kept}
use Rattle.n2k_encode_run.proofs.encoder.Encoder.take_kept.Goals as goal

pub returns-clause-taken : goal.returns-clause-taken
returns-clause-taken c = λ chunk is.
    let t = c.args.self.now.table.now in
    let nearest = c.args.self.now.nearest in
    let kept = c.args.room.now.kept.items in
    let line : c.without_return.result.now ≡ without_return kept = c.without_return.ensures ∙ ap without_return c.deref.ensures.value in
    takes_line_kept t nearest kept chunk c.args.ledger.now c.take_line-taken.new.ledger c.take_line-taken.result is
    (subst (λ x. TakesLine t nearest x c.args.ledger.now c.take_line-taken.new.ledger c.take_line-taken.result) line c.take_line-taken.ensures.taken)
