use Rattle.std.proofs.Common.{rules, Some, Ok, Err}
use Rattle.n2kdec.specs.declared.fault.Fault.TheVariants.{Memory}
use Rattle.n2kdec.proofs.run.MachineLemmas.{read_and_closed}
use Rattle.n2kdec.proofs.run.program.read_file.Goals as goal

pub returns-in-Ok-read-clause-calls : goal.returns-in-Ok-read-clause-calls
returns-in-Ok-read-clause-calls g c =
    let file = c.read_bytes-read.new.reader in
    read_and_closed (g.M.Machine.world c.args.machine.now) c.in-Some.field-0 c.args.reading (g.M.Machine.calls c.args.machine.now) (g.M.Machine.calls c.open.new.self) (g.M.Machine.calls c.close-why.new.self)
    (g.M.File.Source.calls file) (g.M.File.Source.failed_calls file) c.close-why.result c.close-why.ensures.why c.args.name.now (Ok (Some c.in-Ok-read.bytes)) c.in-Some.is c.in-Ok.ensures.calls c.close-why.ensures.calls (search rules)

pub returns-in-Err-TooLong-clause-calls : goal.returns-in-Err-TooLong-clause-calls
returns-in-Err-TooLong-clause-calls g c =
    let file = c.read_bytes-read.new.reader in
    read_and_closed {T = Unit {0}} (g.M.Machine.world c.args.machine.now) c.in-Some.field-0 c.args.reading (g.M.Machine.calls c.args.machine.now) (g.M.Machine.calls c.open.new.self) (g.M.Machine.calls c.close-why.new.self)
    (g.M.File.Source.calls file) (g.M.File.Source.failed_calls file) c.close-why.result c.close-why.ensures.why c.args.name.now (Err c.args.too_large) c.in-Some.is c.in-Ok.ensures.calls c.close-why.ensures.calls (search rules)

pub returns-in-Err-Read-clause-calls : goal.returns-in-Err-Read-clause-calls
returns-in-Err-Read-clause-calls g c =
    let file = c.read_bytes-read.new.reader in
    read_and_closed {T = Unit {0}} (g.M.Machine.world c.args.machine.now) c.in-Some.field-0 c.args.reading (g.M.Machine.calls c.args.machine.now) (g.M.Machine.calls c.open.new.self) (g.M.Machine.calls c.close-why.new.self)
    (g.M.File.Source.calls file) (g.M.File.Source.failed_calls file) c.close-why.result c.close-why.ensures.why c.args.name.now (Err c.unread.result) c.in-Some.is c.in-Ok.ensures.calls c.close-why.ensures.calls (search rules)

pub returns-in-Err-Memory-clause-calls : goal.returns-in-Err-Memory-clause-calls
returns-in-Err-Memory-clause-calls g c =
    let file = c.read_bytes-read.new.reader in
    read_and_closed {T = Unit {0}} (g.M.Machine.world c.args.machine.now) c.in-Some.field-0 c.args.reading (g.M.Machine.calls c.args.machine.now) (g.M.Machine.calls c.open.new.self) (g.M.Machine.calls c.close-why.new.self)
    (g.M.File.Source.calls file) (g.M.File.Source.failed_calls file) c.close-why.result c.close-why.ensures.why c.args.name.now (Err (Memory (Some c.args.reading))) c.in-Some.is c.in-Ok.ensures.calls c.close-why.ensures.calls (search rules)
