use Rattle.std.proofs.Common.{arith}
use Rattle.n2k_table.proofs.Begins.{adds_three}
use Rattle.n2k_table.proofs.Escapes.{text_json-two_digits}
use Rattle.n2k_table.proofs.text.push_digits.Goals as goal

pub returns : goal.returns
returns g c = rw (text_json-two_digits c.args.bytes.now (λ i. omega (arith, c.type_inv.bytes i))) (adds_three c.push-2.result c.args.line.now.items _ _ _ _ _ _ c.in_ok-push.ensures c.in_ok-push_inner_digits.ensures c.push-2.ensures)
