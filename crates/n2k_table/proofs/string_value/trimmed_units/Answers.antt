use Rattle.std.proofs.Common.{◌≡◌, ◌+◌, ◌-◌, ◌*◌, ◌%◌, ◌≤◌, ℕ, true, false, List, length, ap, sym, ◌∙◌, get_or, take, arith}
use Rattle.n2k_table.specs.Shown.{trimmed_of, trimmed_units}
use Rattle.n2k_table.specs.Strings.{units, is_filling_unit}
use Rattle.n2k_table.proofs.Strings.{units_whole, unit_more, unit_done, units_done}
use Rattle.n2k_table.proofs.string_value.trimmed_units.Goals as goal
use Rattle.n2k_table.proofs.string_value.trimmed_units.Goals.{then-loop-end-test+else-is_filling_unit, else-loop-end-test}

pub loop-end-init : goal.loop-end-init
loop-end-init c = (omega arith, omega arith, ap (trimmed_of is_filling_unit) (units_whole c.args.bytes.now))

-- the same of an end two bytes on
cut : (m : ℕ) (bs : List ℕ) → 2 ≤ m → m % 2 ≡ 0 → m ≤ length bs → is_filling_unit (get_or bs (m - 2) 0 + 256 * get_or bs (m - 1) 0) ≡ true
    → trimmed_of is_filling_unit (units (take m bs)) ≡ trimmed_of is_filling_unit (units (take (m - 2) bs))
cut m bs some even enough fills =
    let end : m ≡ m - 2 + 2 = omega (arith, some) in
    let next : m - 1 ≡ m - 2 + 1 = omega (arith, some) in
    let more = unit_more (m - 2) bs (omega (arith, even, some)) (omega (arith, enough, some)) in
    ap (λ k. trimmed_of is_filling_unit (units (take k bs))) end ∙ more (ap (λ k. is_filling_unit (get_or bs (m - 2) 0 + 256 * get_or bs k 0)) (sym next) ∙ fills)

done : (m : ℕ) (bs : List ℕ) → 2 ≤ m → m % 2 ≡ 0 → m ≤ length bs → is_filling_unit (get_or bs (m - 2) 0 + 256 * get_or bs (m - 1) 0) ≡ false
    → trimmed_of is_filling_unit (units (take m bs)) ≡ trimmed_of is_filling_unit (units bs) → take m bs ≡ trimmed_units bs
done m bs some even enough keeps so_far =
    let end : m ≡ m - 2 + 2 = omega (arith, some) in
    let next : m - 1 ≡ m - 2 + 1 = omega (arith, some) in
    let last = ap (λ k. is_filling_unit (get_or bs (m - 2) 0 + 256 * get_or bs k 0)) (sym next) ∙ keeps in
    ap (λ k. take k bs) end
    ∙ unit_done (m - 2) bs (omega (arith, even, some)) (omega (arith, enough, some)) last (ap (λ k. trimmed_of is_filling_unit (units (take k bs))) (sym end) ∙ so_far)

none : (m : ℕ) (bs : List ℕ) → m ≡ 0 → trimmed_of is_filling_unit (units (take m bs)) ≡ trimmed_of is_filling_unit (units bs) → take m bs ≡ trimmed_units bs
none m bs zero so_far =
    ap (λ k. take k bs) zero ∙ units_done bs (ap (λ k. trimmed_of is_filling_unit (units (take k bs))) (sym zero) ∙ so_far)

pub loop-end-preserved : goal.loop-end-preserved
loop-end-preserved c =
    let i = c.loop-end.invariant in
    let test = c.loop-end-test.true in (
      omega (arith, i.0, test),
      omega (arith, i.1, test),
      sym (cut c.loop-end.end c.args.bytes.now test i.0 i.1 (sym c.if-is_filling_unit.ensures)) ∙ i.2,
    )

pub returns : goal.returns
returns c =
    let i = c.loop-end.invariant in
    let bs = c.args.bytes.now in
    elim c.loop-end-test.branch [
      | then-loop-end-test+else-is_filling_unit w ↦ done c.loop-end.end bs w.loop-end-test.true i.0 i.1 (sym w.if-is_filling_unit.ensures) i.2
      | else-loop-end-test w ↦ none c.loop-end.end bs (omega (arith, i.0, w.loop-end-test.false)) i.2
    ]
