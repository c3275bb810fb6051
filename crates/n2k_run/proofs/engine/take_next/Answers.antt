use Rattle.n2k_run.specs.declared.blocks.Next.TheVariants.{Line, Long}
use Rattle.n2k_run.proofs.Calls.{reads_of_answer}
use Rattle.n2k_run.proofs.Taking.{takes_line, takes_long}
use Rattle.n2k_run.proofs.engine.take_next.Goals as goal

pub returns-in-Ok-Line-clause-taken : goal.returns-in-Ok-Line-clause-taken
returns-in-Ok-Line-clause-taken g c =
    let answers = rw (c.in-Ok-Line.is, c.in-Ok-Line.field-0-is) at c.next_line.follows.holds-at-none.0 in
    takes_line (g.H.EntryHandler.fold c.args.engine.now.handler.now) c.args.engine.now.packing _ _ _ _ _ _ _ _ _ _ c.in-Ok-Line.line _ _ c.take_line.result answers c.take_line.ensures.taken

pub returns-in-Ok-Long-clause-taken : goal.returns-in-Ok-Long-clause-taken
returns-in-Ok-Long-clause-taken g c =
    let answers = rw (c.in-Ok-Long.is, c.in-Ok-Long.field-0-is) at c.next_line.follows.holds-at-none.0 in
    takes_long (g.H.EntryHandler.fold c.args.engine.now.handler.now) c.args.engine.now.packing _ _ _ _ _ _ _ _ _ _ _ _ c.take_long.result answers c.take_long.ensures.taken

pub returns-in-Ok-Line-clause-reads : goal.returns-in-Ok-Line-clause-reads
returns-in-Ok-Line-clause-reads g c =
    let answers = rw (c.in-Ok-Line.is, c.in-Ok-Line.field-0-is) at c.next_line.follows.holds-at-none.0 in
    reads_of_answer _ _ _ _ _ _ (Line c.in-Ok-Line.line) c.take_line.result answers

pub returns-in-Ok-Long-clause-reads : goal.returns-in-Ok-Long-clause-reads
returns-in-Ok-Long-clause-reads g c =
    let answers = rw (c.in-Ok-Long.is, c.in-Ok-Long.field-0-is) at c.next_line.follows.holds-at-none.0 in
    reads_of_answer _ _ _ _ _ _ Long c.take_long.result answers
