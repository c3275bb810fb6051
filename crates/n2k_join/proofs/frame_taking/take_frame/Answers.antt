use Rattle.std.proofs.Common.{arith, ◌∙◌, true, false, sym}
use Rattle.n2k_join.specs.Inner.Stored.{key_of}
use Rattle.n2k_join.proofs.JoinLemmas.{on_err}
use Rattle.n2k_join.proofs.Listed.{none-open, here}
use Rattle.n2k_join.proofs.FrameGroups.{rejects-here, none-lost}
use Rattle.n2k_join.proofs.frame_taking.take_frame.Goals as goal

pub returns-in_err-is_message-clause-memory : goal.returns-in_err-is_message-clause-memory
returns-in_err-is_message-clause-memory c = grind (arith, on_err, none-open)

pub returns-in_default-clause-broken : goal.returns-in_default-clause-broken
returns-in_default-clause-broken c = grind (arith, none-open)

pub reopen_at-requires-clause-there : goal.reopen_at-requires-clause-there
reopen_at-requires-clause-there c =
    let frame = c.args.frame.now in
    let g = c.args.groups.now in
    let h = here c.args.line g frame.key c.in-Some.at c.index.result.now c.requires.kept c.in-Some.ensures.place c.index.ensures in
    rejects-here c.args.in_order c.args.line c.args.packet.now frame g c.in-Some.at c.index.result.now h c.requires.apart true (sym (c.rejects.ensures (key_of frame.key)) ∙ c.if-rejects.true)

pub join_at-is_message-requires-clause-missing : goal.join_at-is_message-requires-clause-missing
join_at-is_message-requires-clause-missing c =
    let frame = c.args.frame.now in
    let g = c.args.groups.now in
    let h = here c.args.line g frame.key c.in-Some.at c.index.result.now c.requires.kept c.in-Some.ensures.place c.index.ensures in
    rejects-here c.args.in_order c.args.line c.args.packet.now frame g c.in-Some.at c.index.result.now h c.requires.apart false (sym (c.rejects.ensures (key_of frame.key)) ∙ c.if-rejects.false)

pub returns-clause-broken : goal.returns-clause-broken
returns-clause-broken c =
    let frame = c.args.frame.now in
    let g = c.args.groups.now in
    let h = here c.args.line g frame.key c.in-Some.at c.index.result.now c.requires.kept c.in-Some.ensures.place c.index.ensures in
    none-lost c.args.in_order c.args.line c.args.packet.now frame g c.in-Some.at c.index.result.now h c.requires.apart (sym (c.rejects.ensures (key_of frame.key)) ∙ c.if-rejects.false)
