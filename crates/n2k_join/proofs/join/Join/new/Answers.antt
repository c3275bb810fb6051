use Rattle.std.proofs.Common.{[], sym, subst, arith, rules}
use Rattle.n2k_join.specs.Open.{open_groups, waiting}
use Rattle.n2k_join.specs.State.{IsState}
use Rattle.n2k_join.proofs.join.Join.new.Goals as goal

pub invariant_of-result : goal.invariant_of-result
invariant_of-result c =
    let empty : IsState (record { id = c.lazy_id.result; window = c.args.window; counts = record { lines = 0; messages = 0; bad = 0; unknown = 0; broken = 0; held = 0 }; groups = [] }) = search rules in
    (subst (λ gs. IsState (record { id = c.lazy_id.result; window = c.args.window; counts = record { lines = 0; messages = 0; bad = 0; unknown = 0; broken = 0; held = 0 }; groups = gs })) (sym c.new.ensures.listed) empty, c.new.ensures.kept 1 (omega arith))

pub returns : goal.returns
unfolding open_groups waiting
returns c = grind arith
