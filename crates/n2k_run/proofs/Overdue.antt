-- The groups whose window ends at the next line are broken before it: one round of that loop.
use Rattle.std.proofs.Common.{◌≡◌, ◌+◌, ◌<◌, ℕ, List, ◌++◌, refl, sym, ap, ◌∙◌, append_assoc, Option, Some, option_map, arith}
use Rattle.std.specs.List.{flat_map}
use Rattle.n2k_wire.specs.declared.entry.Entry.{Entry}
use Rattle.n2k_table.specs.declared.definition.Kind.{Kind}
use Rattle.n2k_join.specs.declared.step.Broken.{Broken}
use Rattle.n2k_join.specs.Counts.{most_lines}
use Rattle.n2k_join.specs.Laws.{ExpiresFirst}
use Rattle.n2k_join.specs.Messages.{as_broken}
use Rattle.n2k_join.specs.Open.{Group}
use Rattle.n2k_join.specs.State.{State, Given, next_line, step_given, step_after}
use Rattle.n2k_join.specs.Step.{due, expired}
use Rattle.n2k_run.specs.Inner.Overdue.{BreaksOverdue}
use Rattle.n2k_run.specs.Reports.{broken_text}

-- the group that was reported
record FoundDue (s : State) (b : Broken) : Type 0 where
  pub group : Group
  pub is : due s ≡ Some group
  pub told : as_broken group ≡ b

found_due : (s : State) (b : Broken) → option_map as_broken (due s) ≡ Some b → FoundDue s b
found_due s b e = grind arith

-- breaking a due group counts no line
pub lines_stay : (s : State) → (expired s).counts.lines ≡ s.counts.lines
unfolding expired
lines_stay s = refl

pub one_broken : (s t u : State) (b : Broken) (n : ℕ) (report told told' : List ℕ) → BreaksOverdue s t report told → option_map as_broken (due t) ≡ Some b → u ≡ expired t → t.counts.lines < most_lines → n ≡ t.counts.lines → told' ≡ told ++ broken_text (n + 1) b
    → ((kind : ℕ → Option Kind) (e : Entry) (group : Group) → due t ≡ Some group → ExpiresFirst kind t e group) → BreaksOverdue s u report told'
one_broken s t u b n report told told' so_far is after few number said step =
    let found = found_due t b is in
    let lines : u.counts.lines ≡ t.counts.lines = ap (λ (v : State). v.counts.lines) after ∙ lines_stay t in
    let line : n + 1 ≡ next_line s = ap (λ l. l + 1) (number ∙ so_far.same_lines) in
    let here : told' ≡ told ++ broken_text (next_line s) b = said ∙ ap (λ l. told ++ broken_text l b) line in
    record {
      after = λ kind e. so_far.after kind e ∙ (step kind e found.group found.is).after ∙ ap (λ v. step_after kind v e) (sym after);
      message = λ kind e. so_far.message kind e ∙ ap (λ (g : Given). g.message) (step kind e found.group found.is).given ∙ ap (λ v. (step_given kind v e).message) (sym after);
      cause = λ kind e. so_far.cause kind e ∙ ap (λ (g : Given). g.cause) (step kind e found.group found.is).given ∙ ap (λ v. (step_given kind v e).cause) (sym after);
      broken = λ kind e.
          so_far.broken kind e
          ∙ ap (λ (g : Given). told ++ flat_map (broken_text (next_line s)) g.broken) (step kind e found.group found.is).given
          ∙ ap (λ x. told ++ (broken_text (next_line s) x ++ flat_map (broken_text (next_line s)) (step_given kind (expired t) e).broken)) found.told
          ∙ sym (append_assoc told (broken_text (next_line s) b) (flat_map (broken_text (next_line s)) (step_given kind (expired t) e).broken))
          ∙ ap (λ x. x ++ flat_map (broken_text (next_line s)) (step_given kind (expired t) e).broken) (sym here)
          ∙ ap (λ v. told' ++ flat_map (broken_text (next_line s)) (step_given kind v e).broken) (sym after);
      same_lines = lines ∙ so_far.same_lines;
      still = λ full. absurd (omega (arith, few, full, so_far.same_lines));
    }
