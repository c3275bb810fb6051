use Rattle.std.proofs.Common.{sym, subst, arith}
use Rattle.std.proofs.lemmas.Result.{err_from_is_err_and}
use Rattle.n2k_run.specs.Blocks.{BlocksView}
use Rattle.n2k_run.specs.Inner.Engine.{Proceeds}
use Rattle.n2k_run.proofs.HeldLines.{has_line_at, line_ends_within, proceeds, stops_held, takes_held}
use Rattle.n2k_run.proofs.Running.{takes}
use Rattle.n2k_run.proofs.engine.take_lines.Goals as goal

pub loop-size-init : goal.loop-size-init
loop-size-init g c = record { within = omega arith; stands = λ s₀ before now left calls failed blocks is stands. stands; more = omega arith; ready = c.in_ok-take_next.ensures.ready }

pub returns-in_err-take_line-clause-taken : goal.returns-in_err-take_line-clause-taken
returns-in_err-take_line-clause-taken g c = λ s₀ before now stands.
    let e = c.in_ok-take_next.ensures in
    let p = err_from_is_err_and c.from_residual-in_err-take_line.result c.from_residual-in_err-take_line.ensures.1 in
    let first = takes _ _ _ _ _ _ _ _ _ _ _ _ _ _ _ _ stands c.requires.open e.taken e.device e.called e.reads in
    let here = c.loop-size.invariant.stands s₀ before now _ _ _ c.take_next.new.blocks c.held-held.ensures first in
    let has = has_line_at c.take_next.new.blocks _ c.without_return-line.result.now c.loop-size.at c.in-Some.size c.held-held.ensures c.in-Some.ensures c.without_return-line.ensures in
    rw (p.1, p.2) (stops_held _ _ s₀ before now _ _ _ _ _ _ _ _ _ _ _ _ _ _ here has c.in_err-take_line.ensures.taken)

pub loop-size-preserved : goal.loop-size-preserved
loop-size-preserved g c =
    let e = c.in_ok-take_line.ensures in
    record {
      within = line_ends_within c.held-held.result.now c.loop-size.at c.in-Some.size c.in-Some.ensures;
      stands = λ s₀ before now left calls failed blocks is stands.
          let here = c.loop-size.invariant.stands s₀ before now left calls failed blocks is stands in
          let has = has_line_at blocks _ c.without_return-line.result.now c.loop-size.at c.in-Some.size is c.in-Some.ensures c.without_return-line.ensures in
          takes_held _ _ s₀ before now left calls failed _ _ blocks _ _ _ _ _ _ _ here has e.taken;
      more = omega (arith, e.taken.counted, c.loop-size.invariant.more);
      ready = e.ready;
    }

pub returns-clause-taken : goal.returns-clause-taken
returns-clause-taken g c = λ s₀ before now stands.
    let e = c.in_ok-take_next.ensures in
    let first = takes _ _ _ _ _ _ _ _ _ _ _ _ _ _ _ _ stands c.requires.open e.taken e.device e.called e.reads in
    let here = c.loop-size.invariant.stands s₀ before now _ _ _ c.take_next.new.blocks c.held-held.ensures first in
    rw c.skip.ensures here

pub returns-clause-proceeds : goal.returns-clause-proceeds
returns-clause-proceeds g c =
    let m = g.H.EntryHandler.fold c.args.engine.now.handler.now in
    let p = proceeds m c.args.engine.now.packing _ _ _ _ _ _ _ _ _ _ _ c.in_ok-take_next.ensures.taken c.loop-size.invariant.more in
    subst (λ (h : BlocksView). Proceeds m (g.H.EntryHandler.known c.args.state.now) (g.H.EntryHandler.known c.loop-size.state) h.has_ended) (sym c.skip.ensures) p
