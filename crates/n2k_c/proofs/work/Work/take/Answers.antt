use Rattle.std.proofs.Common.{refl, subst}
use Rattle.n2k_c.specs.Stands.{IsAfter}
use Rattle.n2k_c.proofs.Working.{decodes_more, encodes_more}
use Rattle.n2k_c.proofs.work.Work.take.Goals as goal

pub returns-in-Decodes : goal.returns-in-Decodes
returns-in-Decodes c = λ job taken whole after.
    decodes_more c.args.table.now job taken c.args.more.now c.in-Decodes.decoding _ c.args.output.now.held _ c.args.reports.now.held _ _ _ _ _ c.window.result c.run_more.result
    c.window.ensures refl refl c.run_more.ensures.headline whole (subst (IsAfter c.args.table.now job taken) c.in-Decodes.is after)

pub returns-in-Encodes : goal.returns-in-Encodes
returns-in-Encodes c = λ job taken whole after.
    encodes_more c.args.table.now job taken c.args.more.now c.in-Encodes.encoding c.take.new.self c.args.output.now.held _ c.args.reports.now.held _ _ _ _ _ c.take.result
    c.take.ensures whole (subst (IsAfter c.args.table.now job taken) c.in-Encodes.is after)
