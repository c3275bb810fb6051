use Rattle.std.proofs.Common.{◌≡◌, ℕ, length, get_or, None, Some, option_map, sym, ap, subst, ◌∙◌, arith}
use Rattle.std.specs.List.{find}
use Rattle.n2k_table.specs.Definition.{DefinitionParts}
use Rattle.n2k_table.specs.Table.{TableParts, is_of, kind}
use Rattle.n2k_table.specs.declared.definition.Kind.{Kind}
use Rattle.n2k_table.specs.Inner.Index.{AreOfPgn}
use Rattle.n2k_table.proofs.Found.{kind_of_none, first_found, first_inside, found_pgn}
use Rattle.n2k_table.proofs.table.Table.find.Goals as goal

pub returns-in_err-first : goal.returns-in_err-first
returns-in_err-first c =
    let cs = c.candidates-candidates.result.now in
    let none : kind c.args.self.now c.args.pgn ≡ None = kind_of_none c.args.self.now c.args.pgn cs c.candidates-candidates.ensures.value (sym c.in_err-first.ensures.value) in
    c.from_residual.ensures ∙ sym (ap (option_map (λ (k : Kind). record { table = c.args.self.now; pgn = c.args.pgn })) none)

pub index-requires : goal.index-requires
index-requires c =
    let inside = first_inside c.args.self.now.definitions c.args.pgn c.candidates-candidates.result.now c.in_ok-first.first.now c.candidates-candidates.ensures.value (sym c.in_ok-first.ensures.value) in
    let same : length c.self.inside.definitions.items ≡ length c.args.self.now.definitions = ap (λ (t : TableParts). length t.definitions) c.self.view_is in
    omega (arith, inside, same, c.self.inside.definitions.ok.0)

pub invariant_of-result : goal.invariant_of-result
invariant_of-result c =
    let t = c.args.self.now in
    let d = c.index.result.now in
    let cs = c.candidates-candidates.result.now in
    let at : d ≡ get_or t.definitions c.in_ok-first.first.now.place d = c.index.ensures ∙ ap (λ (u : TableParts). get_or u.definitions c.in_ok-first.first.now.place d) c.self.view_is in
    let is = first_found t c.args.pgn cs c.in_ok-first.first.now d c.candidates-candidates.ensures.value (sym c.in_ok-first.ensures.value) at in
    let number : d.pgn ≡ c.args.pgn = found_pgn c.args.pgn t.definitions d is in
    let all : AreOfPgn c.args.pgn t.definitions cs = record { places = c.candidates-candidates.ensures.value; asked = c.candidates-candidates.ensures.asked } in
    (subst (λ (n : ℕ). find (is_of n) t.definitions ≡ Some d) (sym number) is, subst (λ (n : ℕ). AreOfPgn n t.definitions cs) (sym number) all)

pub returns : goal.returns
returns c =
    let t = c.args.self.now in
    let d = c.index.result.now in
    let at : d ≡ get_or t.definitions c.in_ok-first.first.now.place d = c.index.ensures ∙ ap (λ (u : TableParts). get_or u.definitions c.in_ok-first.first.now.place d) c.self.view_is in
    let is = first_found t c.args.pgn c.candidates-candidates.result.now c.in_ok-first.first.now d c.candidates-candidates.ensures.value (sym c.in_ok-first.ensures.value) at in
    let known : kind t c.args.pgn ≡ Some d.kind = ap (option_map (λ (e : DefinitionParts). e.kind)) is in
    ap (λ n. Some (record { table = c.args.self.now; pgn = n })) (found_pgn c.args.pgn t.definitions d is)
    ∙ sym (ap (option_map (λ (k : Kind). record { table = c.args.self.now; pgn = c.args.pgn })) known)
