use Rattle.std.proofs.Common.{rules, ◌≡◌, ℕ, ◌+◌, ◌∷◌, List, true, false, map, drop, option_map, Some, None, Err, Result, ap, sym, ◌∙◌}
use Rattle.std.specs.List.{filter, slice_get, enumerate_from}
use Rattle.n2k_table.specs.Definition.{DefinitionParts}
use Rattle.n2k_encode.specs.Payload.{data_by, definitions_of, first_data, is_meant}
use Rattle.n2k_encode.specs.Refusal.{CauseParts, cause}
use Rattle.n2k_encode.specs.Views.{request_parts}
use Rattle.n2k_encode.proofs.Firsts.{none_left, left_out, next_left}
use Rattle.n2k_encode.proofs.encode.data_in.Goals as goal

pub returns-in_default : goal.returns-in_default
returns-in_default c =
    let r = request_parts c.args.request.now in
    let ds = definitions_of c.args.known.now in
    let k = c.loop-place.place in
    let p = λ (e : ℕ × DefinitionParts). is_meant r.description e.1 in
    let h = λ (e : ℕ × DefinitionParts). data_by ds c.args.kind c.args.reading r e.0 e.1 in
    let got : slice_get (definitions_of c.args.known.now) c.loop-place.place ≡ None = search rules in
    sym c.loop-place.invariant ∙ ap (first_data (option_map cause c.loop-place.first)) (none_left p h ds k got) ∙ ap Err (sym c.last_refusal.ensures)

pub loop-place-preserved-then-not-is_meant : goal.loop-place-preserved-then-not-is_meant
loop-place-preserved-then-not-is_meant c =
    let r = request_parts c.args.request.now in
    let ds = definitions_of c.args.known.now in
    let k = c.loop-place.place in
    let p = λ (e : ℕ × DefinitionParts). is_meant r.description e.1 in
    let h = λ (e : ℕ × DefinitionParts). data_by ds c.args.kind c.args.reading r e.0 e.1 in
    let got : slice_get (definitions_of c.args.known.now) c.loop-place.place ≡ Some c.in-Some.definition = search rules in
    let other : is_meant (request_parts c.args.request.now).description c.in-Some.definition ≡ false = search rules in
    ap (first_data (option_map cause c.loop-place.first)) (sym (left_out p h ds k c.in-Some.definition got other)) ∙ c.loop-place.invariant

pub returns-in-Ok : goal.returns-in-Ok
returns-in-Ok c =
    let r = request_parts c.args.request.now in
    let ds = definitions_of c.args.known.now in
    let k = c.loop-place.place in
    let p = λ (e : ℕ × DefinitionParts). is_meant r.description e.1 in
    let h = λ (e : ℕ × DefinitionParts). data_by ds c.args.kind c.args.reading r e.0 e.1 in
    let got : slice_get (definitions_of c.args.known.now) c.loop-place.place ≡ Some c.in-Some.definition = search rules in
    let meant : is_meant (request_parts c.args.request.now).description c.in-Some.definition ≡ true = search rules in
    let others = map h (filter p (enumerate_from (k + 1) (drop (k + 1) ds))) in
    sym c.loop-place.invariant ∙ ap (first_data (option_map cause c.loop-place.first)) (next_left p h ds k c.in-Some.definition got meant) ∙ ap (λ (x : Result (List ℕ) CauseParts). first_data (option_map cause c.loop-place.first) (x ∷ others)) c.in-Ok.ensures

pub loop-place-preserved : goal.loop-place-preserved
loop-place-preserved c =
    let r = request_parts c.args.request.now in
    let ds = definitions_of c.args.known.now in
    let k = c.loop-place.place in
    let p = λ (e : ℕ × DefinitionParts). is_meant r.description e.1 in
    let h = λ (e : ℕ × DefinitionParts). data_by ds c.args.kind c.args.reading r e.0 e.1 in
    let got : slice_get (definitions_of c.args.known.now) c.loop-place.place ≡ Some c.in-Some.definition = search rules in
    let meant : is_meant (request_parts c.args.request.now).description c.in-Some.definition ≡ true = search rules in
    let refused : data_by (definitions_of c.args.known.now) c.args.kind c.args.reading (request_parts c.args.request.now) c.loop-place.place c.in-Some.definition ≡ Err (cause c.in-Err-Refused.refusal) = search rules in
    let others = map h (filter p (enumerate_from (k + 1) (drop (k + 1) ds))) in
    let here = ap (first_data (option_map cause c.loop-place.first)) (next_left p h ds k c.in-Some.definition got meant) ∙ ap (λ (x : Result (List ℕ) CauseParts). first_data (option_map cause c.loop-place.first) (x ∷ others)) refused in
    ap (λ earlier. first_data earlier others) c.earlier.ensures ∙ sym here ∙ c.loop-place.invariant
