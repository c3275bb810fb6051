use Rattle.std.proofs.Common.{sym, ◌∙◌, arith}
use Rattle.n2k_run.proofs.SentLines.{moves_bad}
use Rattle.n2k_run.proofs.frames.FrameLinesEntryHandler.take.Goals as goal

pub returns-in_ok-bad_text-in-Bad-clause-taken : goal.returns-in_ok-bad_text-in-Bad-clause-taken
returns-in_ok-bad_text-in-Bad-clause-taken c =
    let e = c.in_ok-outcome.ensures.sent in
    moves_bad _ _ _ _ _ c.in-Bad.cause _ _ _ _ (sym e.made_is ∙ c.in-Bad.is) e.held_is e.text_is c.in_ok-bad_text-in-Bad.ensures.ok (omega (arith, c.requires.ready.1.few, c.if-state-eq-MOST_LINES.false))
