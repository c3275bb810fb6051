use Rattle.std.proofs.Common.{rules}
use Rattle.n2k_run.specs.Runs.{seen}
use Rattle.n2kdec.specs.Run.Commands.{place}
use Rattle.n2kdec.proofs.run.CommandLemmas.{performs_counted, performs_decode, performs_frames, performs_plain, refused}
use Rattle.n2kdec.proofs.run.commands.run_command.Goals as goal

pub returns-in-Plain-clause-performs : goal.returns-in-Plain-clause-performs
returns-in-Plain-clause-performs g c =
    let before = seen g.R.Source g.W.Sink g.E.Sink c.args.log.now c.args.outlets.now.output c.args.outlets.now.errors in
    let after = seen g.R.Source g.W.Sink g.E.Sink c.run_plain_counted-ended.new.reader c.run_plain_counted-ended.new.writer c.close.new.errors in
    let errors = place (g.E.Sink.contents c.run_plain_counted-ended.new.reporter) (g.E.Sink.failed_calls c.run_plain_counted-ended.new.reporter) in
    performs_plain c.args.task.now c.args.table.now _ before after errors c.close.result (g.K.StateStore.kept c.args.outlets.now.keeper) c.run_plain_counted-ended.new.counts c.run_plain_counted-ended.result c.close.ensures.closes c.in-Plain.is
    c.run_plain_counted-ended.ensures.runs

pub returns-in-Ok-clause-performs : goal.returns-in-Ok-clause-performs
returns-in-Ok-clause-performs g c =
    let before = seen g.R.Source g.W.Sink g.E.Sink c.args.log.now c.args.outlets.now.output c.args.outlets.now.errors in
    let after = seen g.R.Source g.W.Sink g.E.Sink c.run_counted-ended.new.reader c.run_counted-ended.new.writer c.close-in-Ok.new.errors in
    let errors = place (g.E.Sink.contents c.run_counted-ended.new.reporter) (g.E.Sink.failed_calls c.run_counted-ended.new.reporter) in
    performs_counted c.args.task.now c.args.table.now _ before after errors c.close-in-Ok.result (g.K.StateStore.kept c.args.outlets.now.keeper) c.in-Decode.options c.in-Decode.save (search rules)
    c.in-Ok.table c.in-Decode.is c.in-Ok.ensures.sound (search rules) c.run_counted-ended.new.counts c.run_counted-ended.result c.run_counted-ended.ensures.runs c.close-in-Ok.ensures.closes

pub returns-in-Ok-2-clause-performs : goal.returns-in-Ok-2-clause-performs
returns-in-Ok-2-clause-performs g c =
    let before = seen g.R.Source g.W.Sink g.E.Sink c.args.log.now c.args.outlets.now.output c.args.outlets.now.errors in
    let after = seen g.R.Source g.W.Sink g.E.Sink c.run_part-ended.new.reader c.run_part-ended.new.writer c.close_part.new.errors in
    let errors = place (g.E.Sink.contents c.run_part-ended.new.reporter) (g.E.Sink.failed_calls c.run_part-ended.new.reporter) in
    performs_decode c.args.task.now c.args.table.now _ before after errors c.close_part.result (g.K.StateStore.kept c.args.outlets.now.keeper) (g.K.StateStore.kept c.close_part.new.keeper) c.in-Decode.options c.in-Decode.save c.in-Ok.table c.in-Decode.is c.in-Ok.ensures.sound
    c.run_part-ended.result c.run_part-ended.ensures.runs c.close_part.ensures.closes

pub returns-in-Err-clause-performs : goal.returns-in-Err-clause-performs
returns-in-Err-clause-performs g c = refused c.args.task.now c.args.table.now _ _ (g.K.StateStore.kept c.args.outlets.now.keeper) c.in-Err.fault c.in-Err.ensures.stands (λ plain. cc)

pub returns-in-Ok-read-clause-performs : goal.returns-in-Ok-read-clause-performs
returns-in-Ok-read-clause-performs g c =
    let before = seen g.R.Source g.W.Sink g.E.Sink c.args.log.now c.args.outlets.now.output c.args.outlets.now.errors in
    let after = seen g.R.Source g.W.Sink g.E.Sink c.run_frames_counted-ended.new.reader c.run_frames_counted-ended.new.writer c.close-in-Ok-read.new.errors in
    let errors = place (g.E.Sink.contents c.run_frames_counted-ended.new.reporter) (g.E.Sink.failed_calls c.run_frames_counted-ended.new.reporter) in
    performs_frames c.args.task.now c.args.table.now _ before after errors c.close-in-Ok-read.result (g.K.StateStore.kept c.args.outlets.now.keeper) c.run_frames_counted-ended.new.counts c.run_frames_counted-ended.result c.close-in-Ok-read.ensures.closes
    c.in-Frames.interface _ c.in-Ok-read.table c.in-Frames.is c.name_of-name.ensures.same c.in-Ok-read.ensures.sound c.run_frames_counted-ended.ensures.runs c.close-in-Ok-read.ensures.begun

pub returns-in-Err-read-clause-performs : goal.returns-in-Err-read-clause-performs
returns-in-Err-read-clause-performs g c = refused c.args.task.now c.args.table.now _ _ (g.K.StateStore.kept c.args.outlets.now.keeper) c.in-Err-read.fault c.in-Err-read.ensures.stands (λ plain. cc)
