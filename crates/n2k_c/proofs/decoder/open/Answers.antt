use Rattle.std.proofs.Common.{◌≡◌, Ok, option_map, refl, subst, sym}
use Rattle.n2k_table.specs.Table.{TableParts}
use Rattle.n2k_run.specs.Parts.{begun}
use Rattle.n2k_run.specs.Decoded.{out, reports}
use Rattle.n2k_c.specs.Job.{decoding}
use Rattle.n2k_c.specs.Stands.{IsAfter}
use Rattle.n2k_c.proofs.Feeding.{ok_is, opened_at}
use Rattle.n2k_c.proofs.decoder.open.Goals as goal

pub returns-clause-stands : goal.returns-clause-stands
returns-clause-stands c = λ prefix is.
    let t = c.args.table.value in
    let o = c.args.options in
    let made = c.new-2.ensures in
    opened_at t (decoding o) prefix (out t o prefix) (reports t o prefix) c.new-2.result made.table made.ended made.cut made.output made.reports is.whole_lines
    (subst (IsAfter t (decoding o) prefix) (sym made.work) (refl, refl, ok_is _ _ _ (subst (λ (x : TableParts). begun x o (option_map (λ bytes. bytes.now) c.args.handed) ≡ Ok c.in_ok-join.join) c.deref.ensures c.in_ok-join.ensures) is.leads_to)) refl refl
