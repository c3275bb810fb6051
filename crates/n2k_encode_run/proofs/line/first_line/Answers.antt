use Rattle.std.proofs.Common.{◌≡◌, [], ◌∷◌, ap, sym, ◌∙◌, arith}
use Rattle.std.proofs.lemmas.List.{drop_all, take_all}
use Rattle.n2k_run.specs.Lines.{lines, without_return}
use Rattle.n2k_encode_run.proofs.Parts.{only_line}
use Rattle.n2k_encode_run.proofs.line.first_line.Goals as goal

pub returns-in-None-clause-lines : goal.returns-in-None-clause-lines
returns-in-None-clause-lines c =
    let bytes = c.args.bytes.now in
    let line : c.split_at.result.0.now ≡ bytes = c.split_at.ensures.front ∙ take_all _ bytes (omega arith) in
    let rest : c.split_at.result.1.now ≡ [] = c.split_at.ensures.back ∙ drop_all _ bytes (omega arith) in
    only_line bytes c.in-None.ensures c.requires ∙ ap (λ x. without_return x ∷ []) (sym line) ∙ ap (λ x. without_return c.split_at.result.0.now ∷ lines x) (sym rest)
