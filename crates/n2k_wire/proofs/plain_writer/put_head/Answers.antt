use Rattle.std.proofs.Common.{◌≡◌, ◌+◌, ◌%◌, ◌∷◌, [], ap, sym, ◌∙◌, arith}
use Rattle.n2k_wire.specs.Texts.{number_column}
use Rattle.n2k_wire.proofs.TextLemmas.{column_of_one}
use Rattle.n2k_wire.proofs.PlainTexts.{head_is, is_plain}
use Rattle.n2k_wire.proofs.plain_writer.put_head.Goals as goal

pub returns-clause-bytes : goal.returns-clause-bytes
returns-clause-bytes c =
    let p = c.args.packet.now in
    let prio = p.id.prio in
    let id_is = c.id-id.ensures.value in
    let small = c.id-id.ensures.valid.prio_ok in
    let one : prio % 10 ≡ prio = omega (arith, small) in
    let prio_is = ap (λ i. 44 ∷ (48 + i.prio) ∷ []) id_is ∙ ap (λ d. 44 ∷ (48 + d) ∷ []) (sym one) ∙ sym (column_of_one prio (omega (arith, small))) in
    head_is p _ _ _ _ _ _ _ _ _ _ _ c.put-at.ensures.bytes c.put-at-2.ensures.bytes c.put_pgn-at.ensures.bytes c.put-at-3.ensures.bytes c.put.ensures.bytes
    c.stamp_buffer-len.ensures.value prio_is (ap (λ i. number_column i.pgn) id_is) (c.small_column-count.ensures.column ∙ ap (λ i. number_column i.src) id_is)
    (c.small_column-count-2.ensures.column ∙ ap (λ i. number_column i.dst) id_is)

pub returns-clause-plain : goal.returns-clause-plain
returns-clause-plain c = is_plain c.args.packet.now c.id-id.ensures.valid.stamp_ok
