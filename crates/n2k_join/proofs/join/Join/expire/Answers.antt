use Rattle.std.proofs.Common.{◌≡◌, ◌+◌, ◌-◌, ◌∙◌, ℕ, Option, Some, refl, sym, ap, subst, arith}
use Rattle.n2k_join.specs.Open.{Group}
use Rattle.n2k_wire.specs.declared.entry.Entry.{Entry}
use Rattle.n2k_table.specs.declared.definition.Kind.{Kind}
use Rattle.n2k_join.specs.Laws.{ExpiresFirst}
use Rattle.n2k_join.specs.State.{State, IsState, AreWaiting}
use Rattle.n2k_join.specs.Step.{due, expired}
use Rattle.n2k_join.specs.Inner.Order.{listed}
use Rattle.n2k_join.proofs.Expiring.{is_due, expires_first, expires_by, expired_by, expired-state, expired-waits, some-due, fewer, due-few, told}
use Rattle.n2k_join.proofs.join.Join.expire.Goals as goal

pub invariant_of-self : goal.invariant_of-self
invariant_of-self c = grind arith

pub invariant_of-self-2 : goal.invariant_of-self-2
unfolding expired
invariant_of-self-2 c =
    let s : State = record { id = c.self.inside.id; window = c.self.inside.window; counts = c.self.inside.counts; groups = listed c.self.inside.groups } in
    let d = expires_by s c.args.self.now c.in_ok-broken.broken c.self.view_is c.self.invariant.0 (told s c.args.self.now c.self.view_is c.if-self-eq-MOST_LINES.false _ (c.take_ended.ensures.broken) ∙ c.in_ok-broken.was) in
    (subst (λ gs. IsState (record { id = s.id; window = s.window; counts = record s.counts { broken = s.counts.broken + 1; held = s.counts.held - 1 }; groups = gs })) (sym (c.in_ok-broken.ensures.taken refl)) (expired-state s d.group d.is c.self.invariant.0), c.take_ended.ensures.kept)

pub overflow_sub-counts : goal.overflow_sub-counts
overflow_sub-counts c =
    let s : State = record { id = c.self.inside.id; window = c.self.inside.window; counts = c.self.inside.counts; groups = listed c.self.inside.groups } in
    let d = expires_by s c.args.self.now c.in_ok-broken.broken c.self.view_is c.self.invariant.0 (told s c.args.self.now c.self.view_is c.if-self-eq-MOST_LINES.false _ (c.take_ended.ensures.broken) ∙ c.in_ok-broken.was) in
    omega (arith, some-due s d.group d.is, c.self.invariant.0.held)

pub returns-clause-after : goal.returns-clause-after
returns-clause-after c = λ _.
    let s : State = record { id = c.self.inside.id; window = c.self.inside.window; counts = c.self.inside.counts; groups = listed c.self.inside.groups } in
    expired_by s c.args.self.now (listed c.take_ended.new.self) c.self.view_is (c.in_ok-broken.ensures.taken refl)

pub returns-clause-waiting : goal.returns-clause-waiting
returns-clause-waiting c = λ wait.
    let s : State = record { id = c.self.inside.id; window = c.self.inside.window; counts = c.self.inside.counts; groups = listed c.self.inside.groups } in
    let d = expires_by s c.args.self.now c.in_ok-broken.broken c.self.view_is c.self.invariant.0 (told s c.args.self.now c.self.view_is c.if-self-eq-MOST_LINES.false _ (c.take_ended.ensures.broken) ∙ c.in_ok-broken.was) in
    subst AreWaiting (ap expired c.self.view_is ∙ sym (expired_by s c.args.self.now (listed c.take_ended.new.self) c.self.view_is (c.in_ok-broken.ensures.taken refl))) (expired-waits s d.group d.is (subst AreWaiting (sym c.self.view_is) wait))

pub returns-clause-fewer : goal.returns-clause-fewer
returns-clause-fewer c = λ _.
    let s : State = record { id = c.self.inside.id; window = c.self.inside.window; counts = c.self.inside.counts; groups = listed c.self.inside.groups } in
    fewer c.args.self.now _ c.in_ok-broken.broken (told s c.args.self.now c.self.view_is c.if-self-eq-MOST_LINES.false _ (c.take_ended.ensures.broken) ∙ c.in_ok-broken.was) (expired_by s c.args.self.now (listed c.take_ended.new.self) c.self.view_is (c.in_ok-broken.ensures.taken refl))

pub returns-clause-few : goal.returns-clause-few
returns-clause-few c = grind (arith, due-few, told)

pub returns-clause-one_step : goal.returns-clause-one_step
returns-clause-one_step c = λ kind e group due_is. steps c.args.self.now group kind e (subst IsState c.self.view_is c.self.invariant.0) due_is
  where
    steps : (t : State) (group : Group) (kind : ℕ → Option Kind) (e : Entry) → IsState t → due t ≡ Some group → ExpiresFirst kind t e group
    steps t group kind e is due_is = expires_first t group (is_due t group is.groups.rise due_is) kind e

pub returns-in_err-broken-clause-broken : goal.returns-in_err-broken-clause-broken
returns-in_err-broken-clause-broken c = grind (arith, told)

pub returns-clause-broken : goal.returns-clause-broken
returns-clause-broken c = grind (arith, told)

pub returns-in_err-broken-clause-one_step : goal.returns-in_err-broken-clause-one_step
returns-in_err-broken-clause-one_step c = λ kind e group due_is. expires_first c.args.self.now group (is_due c.args.self.now group (subst IsState c.self.view_is c.self.invariant.0).groups.rise due_is) kind e
