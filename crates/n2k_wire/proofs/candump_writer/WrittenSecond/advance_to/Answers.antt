use Rattle.std.proofs.Common.{◌≡◌, ◌++◌, length, ap, sym, ◌∙◌, arith, rules}
use Rattle.n2k_wire.specs.Inner.Stamp.{plain_moment}
use Rattle.n2k_wire.proofs.SecondCaches.{first_chunk}
use Rattle.n2k_wire.proofs.SharedSeconds.{no_moment, of_second, turned}
use Rattle.n2k_wire.proofs.candump_writer.WrittenSecond.advance_to.Goals as goal

pub returns-in_err-prefix-clause-none : goal.returns-in_err-prefix-clause-none
returns-in_err-prefix-clause-none c = rw c.from_residual.ensures (no_moment c.args.stamp.now (λ e. omega (arith, c.in_err-prefix.ensures.cases)))

pub returns-in_err-after-clause-none : goal.returns-in_err-after-clause-none
returns-in_err-after-clause-none c =
    let prefix = c.in_ok-prefix.ensures.cases in
    rw c.from_residual-in_err-after.ensures (no_moment c.args.stamp.now (λ e. c.in_err-after.ensures.cases (omega (arith, prefix.2, e))))

pub returns-then-are_millis-clause-some : goal.returns-then-are_millis-clause-some
returns-then-are_millis-clause-some c =
    let parts = c.in_ok-prefix.ensures.cases in
    let prefix = first_chunk 20 c.args.stamp.now c.in_ok-prefix.prefix.now c.in_ok-prefix.after.now parts.0 parts.1 parts.2 in
    let after = c.in_ok-after.ensures.cases in
    let same : c.in_ok-prefix.prefix.now ≡ c.args.self.now.stamp = search rules in
    of_second c.args.stamp.now c.in_ok-prefix.prefix.now c.in_ok-after.after.now c.args.self.now.line c.args.self.now.stamp (prefix.1 ∙ ap (λ t. c.in_ok-prefix.prefix.now ++ t) (sym after.same)) (ap length after.same ∙ after.long) c.requires same (sym c.if-are_millis.ensures)

pub returns-clause-second : goal.returns-clause-second
returns-clause-second c =
    let parts = c.in_ok-prefix.ensures.cases in
    let prefix = first_chunk 20 c.args.stamp.now c.in_ok-prefix.prefix.now c.in_ok-prefix.after.now parts.0 parts.1 parts.2 in
    let after = c.in_ok-after.ensures.cases in
    let found = c.in_ok-seen.ensures in
    rw c.second_prefix-self.ensures (turned c.args.stamp.now c.in_ok-prefix.prefix.now c.in_ok-after.after.now (plain_moment c.in_ok-seen.seen) (prefix.1 ∙ ap (λ t. c.in_ok-prefix.prefix.now ++ t) (sym after.same)) prefix.0 (ap length after.same ∙ after.long) found.value found.range.seconds_fit).0

pub returns-clause-some : goal.returns-clause-some
returns-clause-some c =
    let parts = c.in_ok-prefix.ensures.cases in
    let prefix = first_chunk 20 c.args.stamp.now c.in_ok-prefix.prefix.now c.in_ok-prefix.after.now parts.0 parts.1 parts.2 in
    let after = c.in_ok-after.ensures.cases in
    let found = c.in_ok-seen.ensures in
    rw c.second_prefix-self.ensures (turned c.args.stamp.now c.in_ok-prefix.prefix.now c.in_ok-after.after.now (plain_moment c.in_ok-seen.seen) (prefix.1 ∙ ap (λ t. c.in_ok-prefix.prefix.now ++ t) (sym after.same)) prefix.0 (ap length after.same ∙ after.long) found.value found.range.seconds_fit).1
