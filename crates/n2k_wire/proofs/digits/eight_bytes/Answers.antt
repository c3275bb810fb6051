use Rattle.std.proofs.Common.{Some, ap, sym, ◌∙◌, arith}
use Rattle.n2k_wire.proofs.HexDigits.{decode_of-even, sixteen_joined, sixteen_read}
use Rattle.n2k_wire.proofs.digits.eight_bytes.Goals as goal

pub returns-clause-hexadecimal : goal.returns-clause-hexadecimal
returns-clause-hexadecimal c = (sixteen_read c.args.digits c.fits-digits.0 c.fits-digits.1 (omega arith)).0

pub returns-clause-value : goal.returns-clause-value
returns-clause-value c =
    let digits = c.args.digits in
    let read = sixteen_read digits c.fits-digits.0 c.fits-digits.1 (omega arith) in
    decode_of-even 8 digits read.0 c.fits-digits.0 ∙ ap Some (sym (sixteen_joined digits c.fits-digits.0 read))
