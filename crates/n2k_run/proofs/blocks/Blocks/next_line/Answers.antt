use Rattle.std.proofs.Common.{◌≡◌, inl, inr, true, false, Ok, Err, refl, ap, subst}
use Rattle.std.proofs.lemmas.Result.{err_from_is_err_and}
use Rattle.n2k_run.specs.declared.blocks.Next.TheVariants.{End}
use Rattle.n2k_run.specs.Blocks.{BlocksView}
use Rattle.n2k_run.proofs.Answering.{answers_known}
use Rattle.n2k_run.proofs.Feeds.{gives_end, gives_line, judges_line, line_within, passes_line}
use Rattle.n2k_run.proofs.Finding.{answers_next, answers_none}
use Rattle.n2k_run.proofs.blocks.Blocks.next_line.Goals as goal

pub returns-in_err-size : goal.returns-in_err-size
returns-in_err-size g c =
    let p = err_from_is_err_and c.from_residual.result c.from_residual.ensures.1 in
    let e = c.in_err-size.ensures in
    let answers = answers_none _ _ _ _ _ _ p.0 e.reads e.none in
    rw p.1 ((refl, λ _. tt, (answers, answers_known _ _ _ _ _ _ (Err p.0) answers, e.failed)), record { answers = tt; quiet = e.quiet; none_failed = tt })

pub returns-then-not-was_passing : goal.returns-then-not-was_passing
returns-then-not-was_passing g c =
    let i = c.self.inside in
    let is = c.self.view_is in
    let e = c.in_ok-size.ensures in
    let old = c.find_end.new.self in
    let passes = passes_line i old c.in_ok-size.size c.min-self-inside.result is c.self.invariant c.self.told c.min-self-inside.ensures in
    let ended = subst (λ (h : BlocksView). h.has_ended ≡ true) is c.if-self.true in
    let plain = subst (λ (h : BlocksView). h.is_passing ≡ false) is c.if-not-was_passing.true in
    let gives = gives_end old _ c.in_ok-size.size _ e.found passes ended c.if-size-eq0.true plain in
    let answers = answers_next _ old _ _ _ _ _ End e.reads (ap (λ (h : BlocksView). h.reads) is) passes.ended gives in
    ((refl, λ _. tt, (answers, answers_known _ _ _ _ _ _ (Ok End) answers, tt)), record { answers = tt; quiet = e.quiet; none_failed = e.none_failed })

pub returns : goal.returns
returns g c =
    let i = c.self.inside in
    let is = c.self.view_is in
    let e = c.in_ok-size.ensures in
    let old = c.find_end.new.self in
    let size = c.in_ok-size.size in
    let passes = passes_line i old size c.min-self-inside.result is c.self.invariant c.self.told c.min-self-inside.ensures in
    let some : i.has_ended ≡ true → size ≡ 0 → i.is_passing ≡ false → ⊥ = λ ended no_byte plain. elim c.else-self.either [
      | inl w ↦ cc
      | inr w ↦ elim w [ inl v ↦ absurd (v.1 no_byte) | inr v ↦ cc ]
    ] in
    let found = subst (λ (h : BlocksView). h.has_ended ≡ true → size ≡ 0 → h.is_passing ≡ false → ⊥) is some in
    let judged = judges_line i old size c.next_of.result is c.self.invariant c.self.told (line_within _ _ _ _ e.found) c.next_of.ensures in
    let gives = gives_line old _ size _ c.next_of.result e.found passes found judged in
    let answers = answers_next _ old _ _ _ _ _ c.next_of.result e.reads (ap (λ (h : BlocksView). h.reads) is) passes.ended gives in
    ((refl, λ _. tt, (answers, answers_known _ _ _ _ _ _ (Ok c.next_of.result) answers, tt)), record { answers = tt; quiet = e.quiet; none_failed = e.none_failed })
