use Rattle.std.proofs.Common.{rules, ◌≡◌, ◌&&◌, nat_eq, nat_le, ℕ, ◌+◌, true, false, Some, option_map, drop, find, sym, ap, ◌∙◌, arith}
use Rattle.std.specs.Map.{lookup as value_at}
use Rattle.std.specs.Str.{bytes_eq}
use Rattle.n2k_table.specs.Lookup.{LookupParts, name_of_value}
use Rattle.n2k_table.proofs.Names.{has_name, find_here, find_later, name_of_value-entry_pair}
use Rattle.n2k_table.proofs.lookup.Lookup.value_of.Goals as goal
use Rattle.n2k_table.proofs.lookup.Lookup.value_of.Goals.{else-value-most-via-then-value-most+else-eq, else-value-most-via-else-value-most}

pub returns-then-eq-clause-first : goal.returns-then-eq-clause-first
returns-then-eq-clause-first c =
    let is : (nat_le c.in_ok-value.value.now c.args.most && bytes_eq c.in_ok-value.known.now c.args.name.now) ≡ true = grind arith in
    let first = find_here c.args.most c.args.name.now c.self.inside.names.entries c.loop-place.place (c.in_ok-value.value.now, c.in_ok-value.known.now) c.in_ok-value.ensures.entry is in
    let left = ap (λ (l : LookupParts). find (has_name c.args.most c.args.name.now) (drop c.loop-place.place l.entries)) (sym c.self.view_is) in
    sym (ap (option_map (λ e. e.0)) (sym c.loop-place.invariant ∙ (left ∙ first)))

pub returns-then-eq-clause-named : goal.returns-then-eq-clause-named
returns-then-eq-clause-named c =
    let found : value_at (nat_eq c.in_ok-value.value.now) c.self.inside.names.entries ≡ Some c.in_ok-value.known.now = search rules in
    let same : c.in_ok-value.known.now ≡ c.args.name.now = search rules in
    let here = name_of_value-entry_pair c.in_ok-value.value.now c.self.inside.names.entries in
    ap (λ (l : LookupParts). name_of_value l.entries c.in_ok-value.value.now) (sym c.self.view_is) ∙ (here ∙ (found ∙ ap Some same))

pub loop-place-preserved : goal.loop-place-preserved
loop-place-preserved c =
    let not : (nat_le c.in_ok-value.value.now c.args.most && bytes_eq c.in_ok-value.known.now c.args.name.now) ≡ false =
    elim c.else-value-most.branch [
      | else-value-most-via-then-value-most+else-eq w ↦ grind arith
      | else-value-most-via-else-value-most w ↦ grind arith
    ] in
    let passed = find_later c.args.most c.args.name.now c.self.inside.names.entries c.loop-place.place (c.in_ok-value.value.now, c.in_ok-value.known.now) c.in_ok-value.ensures.entry not in
    let left = λ (at : ℕ). ap (λ (l : LookupParts). find (has_name c.args.most c.args.name.now) (drop at l.entries)) (sym c.self.view_is) in
    left (c.loop-place.place + 1) ∙ (sym passed ∙ (sym (left c.loop-place.place) ∙ c.loop-place.invariant))
