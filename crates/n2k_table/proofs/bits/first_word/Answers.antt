use Rattle.std.proofs.Common.{ℕ, List, slice_index, ap, ◌∙◌}
use Rattle.std.proofs.lemmas.List.{get_or-take}
use Rattle.n2k_table.proofs.RawBits.{raw_eight_bytes}
use Rattle.n2k_table.proofs.bits.first_word.Goals as goal

pub returns-in-Some : goal.returns-in-Some
returns-in-Some c =
    let payload = c.args.«data».now in
    c.from_le_bytes.ensures ∙ raw_eight_bytes payload c.in-Some.eight.now (λ k. (c.type_inv.«data» k).fits)
    (λ k lt. ap (λ (bs : List ℕ). slice_index bs k) c.in-Some.ensures.cases.same ∙ get_or-take 8 payload k 0 lt)
