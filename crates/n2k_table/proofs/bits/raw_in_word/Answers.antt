use Rattle.std.proofs.Common.{◌≡◌, ◌+◌, ◌-◌, ◌*◌, List, ℕ, length, take, drop, ap, ◌∙◌, arith}
use Rattle.std.proofs.lemmas.List.{length-drop, take_all}
use Rattle.n2k_table.specs.Bits.{raw}
use Rattle.n2k_table.proofs.RawBits.{raw_drop, bits_of_word}
use Rattle.n2k_table.proofs.bits.raw_in_word.Goals as goal

pub returns : goal.returns
returns c =
    let payload = c.args.«data».now in
    let from = c.args.from in
    let shift = c.args.at - 8 * from in
    let size = length payload - from in
    let here : take size (drop from payload) ≡ drop from payload = take_all size (drop from payload) (omega (arith, length-drop from payload)) in
    bits_of_word (take size (drop from payload)) c.first_word.result shift c.args.bits c.args.mask c.first_word.ensures c.requires.mask (omega (arith, c.requires))
    ∙ ap (λ (d : List ℕ). raw d shift c.args.bits) here
    ∙ raw_drop payload from shift c.args.bits
    ∙ ap (λ p. raw payload p c.args.bits) (let e : 8 * from + shift ≡ c.args.at = omega (arith, c.requires) in e)
