use Rattle.std.proofs.Common.{◌≡◌, ◌∷◌, List, ℕ, unwrap_or, ap, sym, ◌∙◌, arith}
use Rattle.std.specs.Char.Utf16.{utf16_lossy_chars, lone_unit_char}
use Rattle.n2k_table.specs.Strings.{units}
use Rattle.n2k_table.proofs.Strings.{paired, alone, at_last}
use Rattle.n2k_table.proofs.wide_text.split_character.Goals as goal
use Rattle.n2k_table.proofs.wide_text.split_character.Goals.{in-Some+in_default-pair_character, in_default}

pub returns-in-Some-pair_character : goal.returns-in-Some-pair_character
returns-in-Some-pair_character c =
    let u = c.in_ok-unit.unit in
    let first = c.in_ok-unit.ensures in
    let next = c.in-Some.ensures in
    let pair = c.in-Some-pair_character.ensures in (
      ap utf16_lossy_chars (first.0 ∙ ap (λ (us : List ℕ). u ∷ us) next.0) ∙ paired u c.in-Some.next (units c.in-Some.rest.now) pair.0
          ∙ ap (λ n. n ∷ utf16_lossy_chars (units c.in-Some.rest.now)) (sym pair.1),
      omega (arith, first.1, next.1),
    )

pub returns : goal.returns
returns c =
    let u = c.in_ok-unit.unit in
    let first = c.in_ok-unit.ensures in
    let rest = c.in_ok-unit.after.now in
    let lone : utf16_lossy_chars (u ∷ units rest) ≡ unwrap_or (lone_unit_char u) 0xFFFD ∷ utf16_lossy_chars (units rest) =
    elim c.match-split_unit.branch [
      | in-Some+in_default-pair_character w ↦
          let next = w.in-Some.ensures in
          ap (λ (us : List ℕ). utf16_lossy_chars (u ∷ us)) next.0 ∙ alone u w.in-Some.next (units w.in-Some.rest.now) w.in_default-pair_character.ensures
          ∙ ap (λ (us : List ℕ). unwrap_or (lone_unit_char u) 0xFFFD ∷ utf16_lossy_chars us) (sym next.0)
      | in_default w ↦
          let none = w.in_default.ensures in
          ap (λ (us : List ℕ). utf16_lossy_chars (u ∷ us)) none ∙ at_last u ∙ ap (λ (us : List ℕ). unwrap_or (lone_unit_char u) 0xFFFD ∷ utf16_lossy_chars us) (sym none)
    ] in
    (ap utf16_lossy_chars first.0 ∙ lone ∙ ap (λ n. n ∷ utf16_lossy_chars (units rest)) (sym c.lone_character.ensures), omega (arith, first.1))
