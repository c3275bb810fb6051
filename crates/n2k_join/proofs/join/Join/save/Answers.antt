use Rattle.std.proofs.Common.{ℕ, List, refl, subst, ap, ◌∙◌}
use Rattle.std.proofs.lemmas.Result.{IfOk-weaker}
use Rattle.n2k_join.specs.Inner.Order.{listed}
use Rattle.n2k_join.specs.Saved.{IsId, state_text}
use Rattle.n2k_join.specs.State.{State, IsState}
use Rattle.n2k_join.proofs.StateBound.{saved-short}
use Rattle.n2k_join.proofs.join.Join.save.Goals as goal

pub returns-clause-bounded : goal.returns-clause-bounded
returns-clause-bounded c =
    let at : List ℕ → State = λ id. record { id = id; window = c.self.inside.window; counts = c.self.inside.counts; groups = listed c.self.inside.groups } in
    let known = subst IsId c.bytes-id.ensures c.state_text.ensures.id in
    IfOk-weaker c.state_text.result _ _ (λ text is. saved-short (at c.self.inside.id) c.args.self.now (listed c.self.inside.groups) text.items c.self.invariant.0 known refl c.self.view_is
    (is ∙ ap (λ id. state_text (at id)) c.bytes-id.ensures)) c.state_text.ensures.text

pub returns-clause-reads_back : goal.returns-clause-reads_back
returns-clause-reads_back c = λ kind fast id. c.state_reads_back.ensures.same kind c.args.self.now (subst IsState c.self.view_is c.self.invariant.0) fast id
