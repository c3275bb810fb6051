use Rattle.std.proofs.Common.{◌≡◌, ◌+◌, ◌<◌, ◌≤◌, ◌∙◌, is_some, sym, ap, subst, length, arith}
use Rattle.n2k_join.specs.declared.counts.Counts.{Counts}
use Rattle.n2k_table.specs.Table.{kind}
use Rattle.n2k_join.specs.Counts.{most_lines}
use Rattle.n2k_join.specs.declared.step.Step.{Step}
use Rattle.n2k_join.specs.State.{State, step_after, IsState, AreWaiting}
use Rattle.n2k_join.specs.Inner.Order.{listed, IsKept}
use Rattle.n2k_join.specs.Step.{packet_in, message_in}
use Rattle.n2k_join.proofs.Keeping.{step-keeps, step-waits, few-open}
use Rattle.n2k_join.proofs.LineLemmas.{line-gives, line-leads, own_counted}
use Rattle.n2k_join.proofs.join.Join.take.Goals as goal

pub invariant_of-self-2 : goal.invariant_of-self-2
invariant_of-self-2 c =
    let s : State = record { id = c.self.inside.id; window = c.self.inside.window; counts = c.self.inside.counts; groups = listed c.self.inside.groups } in
    let below : s.counts.lines < most_lines = omega (arith, c.self.invariant.0.counted.lines, c.if-self-eq-MOST_LINES.false) in
    let o = c.in_ok-taken.taken in
    let step : Step = record { message = message_in (is_some o.message) (packet_in c.take_entry.new.entry); bad = o.bad; broken = o.broken } in
    let held : c.len.result ≡ length (listed c.take_entry.new.groups) = c.len.ensures (c.self.inside.counts.lines + 1 + 1) c.in_ok-taken.ensures.kept in
    let gives = c.in_ok-taken.ensures in
    let leads = line-leads (kind c.args.table.now) s c.args.self.now c.args.entry.now c.is_in_order-in_order.result c.self.invariant.0 c.self.view_is c.requires.expired c.if-self-eq-MOST_LINES.false c.is_in_order-in_order.ensures step o.is_unknown c.len.result (listed c.take_entry.new.groups) c.count_line.new.counts gives.given gives.unknown gives.groups held (rw (sym (own_counted c.args.table.now o.message (packet_in c.take_entry.new.entry) gives.own)) at c.count_line.ensures) in
    let lines : c.count_line.new.counts.lines + 1 ≡ c.self.inside.counts.lines + 1 + 1 = ap (λ (n : Counts). n.lines + 1) c.count_line.ensures in
    (subst IsState (sym leads) (step-keeps (kind c.args.table.now) s c.args.entry.now c.self.invariant.0 (c.lemma_entry_valid.ensures c.requires.short) below), subst (λ n. IsKept n c.take_entry.new.groups) (sym lines) c.in_ok-taken.ensures.kept)

pub returns-clause-takes : goal.returns-clause-takes
returns-clause-takes c =
    let s : State = record { id = c.self.inside.id; window = c.self.inside.window; counts = c.self.inside.counts; groups = listed c.self.inside.groups } in
    let below : s.counts.lines < most_lines = omega (arith, c.self.invariant.0.counted.lines, c.if-self-eq-MOST_LINES.false) in
    let o = c.in_ok-taken.taken in
    let step : Step = record { message = message_in (is_some o.message) (packet_in c.take_entry.new.entry); bad = o.bad; broken = o.broken } in
    let held : c.len.result ≡ length (listed c.take_entry.new.groups) = c.len.ensures (c.self.inside.counts.lines + 1 + 1) c.in_ok-taken.ensures.kept in
    let gives = c.in_ok-taken.ensures in
    let leads = line-leads (kind c.args.table.now) s c.args.self.now c.args.entry.now c.is_in_order-in_order.result c.self.invariant.0 c.self.view_is c.requires.expired c.if-self-eq-MOST_LINES.false c.is_in_order-in_order.ensures step o.is_unknown c.len.result (listed c.take_entry.new.groups) c.count_line.new.counts gives.given gives.unknown gives.groups held (rw (sym (own_counted c.args.table.now o.message (packet_in c.take_entry.new.entry) gives.own)) at c.count_line.ensures) in
    let keeps : IsState (step_after (kind c.args.table.now) s c.args.entry.now) = step-keeps (kind c.args.table.now) s c.args.entry.now c.self.invariant.0 (c.lemma_entry_valid.ensures c.requires.short) below in
    record {
      given = line-gives (kind c.args.table.now) s c.args.self.now c.args.entry.now c.is_in_order-in_order.result c.self.invariant.0 c.self.view_is c.requires.expired c.if-self-eq-MOST_LINES.false c.is_in_order-in_order.ensures gives.given;
      after = leads ∙ ap (λ t. step_after (kind c.args.table.now) t c.args.entry.now) c.self.view_is;
      waiting = subst AreWaiting (sym leads) (step-waits (kind c.args.table.now) s c.args.entry.now);
      few_open = subst (λ (t : State). length t.groups ≤ t.window.lines) (sym leads) (few-open (step_after (kind c.args.table.now) s c.args.entry.now) keeps (step-waits (kind c.args.table.now) s c.args.entry.now));
      unchanged = tt;
      few = subst (λ (t : State). t.counts.lines < most_lines) c.self.view_is below;
      full = (λ bad. absurd cc, λ full. absurd (c.if-self-eq-MOST_LINES.false (ap (λ (t : State). t.counts.lines) c.self.view_is ∙ full)));
      memory = λ bad. absurd cc;
    }
