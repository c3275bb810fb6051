use Rattle.std.proofs.Common.{◌∙◌, ℕ, inr, ap, length, arith, refl, rules, length-take}
use Rattle.std.proofs.KnownBytes.{Consumes-trans}
use Rattle.n2k_run.proofs.Finding.{calls_more, calls_end}
use Rattle.n2k_run.proofs.reading.read_bytes.Goals as goal

pub returns-in_err-read_more-clause-consumed : goal.returns-in_err-read_more-clause-consumed
returns-in_err-read_more-clause-consumed g c = (_, Consumes-trans _ _ _ _ _ c.loop-reads.invariant.taken c.read_more.ensures.gains.given, omega (arith, ap length c.read_more.ensures.gains.appended, length-take {A = ℕ}, c.min-wanted.ensures))

pub returns-then-branch-eq0-clause-consumed : goal.returns-then-branch-eq0-clause-consumed
returns-then-branch-eq0-clause-consumed g c = (_, Consumes-trans _ _ _ _ _ c.loop-reads.invariant.taken c.read_more.ensures.gains.given, omega (arith, ap length c.read_more.ensures.gains.appended, c.in_ok-read_more.ensures.count))

pub returns-then-len-limit-clause-consumed : goal.returns-then-len-limit-clause-consumed
returns-then-len-limit-clause-consumed g c = (_, Consumes-trans _ _ _ _ _ c.loop-reads.invariant.taken c.read_more.ensures.gains.given, omega (arith, ap length c.read_more.ensures.gains.appended, length-take {A = ℕ}, c.min-wanted.ensures))

pub loop-reads-preserved : goal.loop-reads-preserved
loop-reads-preserved g c = record {
  taken = rw c.read_more.ensures.gains.appended (Consumes-trans _ _ _ _ _ c.loop-reads.invariant.taken c.read_more.ensures.gains.given);
  no_failure = c.in_ok-read_more.ensures.no_failure (λ e. search rules) ∙ c.loop-reads.invariant.no_failure;
  a_byte_a_read = omega (arith, c.in_ok-read_more.ensures.count, c.if-branch-eq0.false);
  called = calls_more _ _ _ _ _ _ c.loop-reads.invariant.called c.in_ok-read_more.ensures.called refl;
  within = omega (arith, c.if-len-limit.false);
}

pub returns-clause-read_fails : goal.returns-clause-read_fails
returns-clause-read_fails g c e = inr (calls_end _ _ _ c.loop-reads.invariant.called (omega (arith, c.loop-reads-test.false)), c.loop-reads.invariant.no_failure, omega (arith, c.loop-reads-test.false))
