use Rattle.std.proofs.Common.{[], ap, arith, refl, subst, sym}
use Rattle.n2k_encode_run.specs.More.{EncodingParts}
use Rattle.n2k_c.specs.Job.{encoding}
use Rattle.n2k_c.specs.Stands.{IsAfter}
use Rattle.n2k_c.proofs.Feeding.{opened_at}
use Rattle.n2k_c.proofs.decoder.open_encoder.Goals as goal

pub returns : goal.returns
returns c =
    let t = c.args.table.value in
    let job = encoding c.args.nearest in
    let made = c.new-2.ensures in
    opened_at t job [] [] [] c.new-2.result made.table made.ended made.cut made.output made.reports (λ some. absurd (omega (arith, some)))
    (subst (IsAfter t job []) (sym made.work) (ap (λ (e : EncodingParts). e.nearest) c.new.ensures, ([], tt, ap (λ (e : EncodingParts). e.counts) c.new.ensures))) ([], tt, refl) ([], tt, refl)
