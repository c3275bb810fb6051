use Rattle.std.proofs.Common.{Some, ap, sym, ◌∙◌, option_map}
use Rattle.std.specs.Int.{w32, from_be_bytes}
use Rattle.n2k_wire.proofs.FastFrames.{identifier_of, word_of}
use Rattle.n2k_wire.proofs.candump_fast.fast_identifier.Goals as goal

pub returns-then-number-lt-FIRST_ERROR_FRAME-clause-hexadecimal : goal.returns-then-number-lt-FIRST_ERROR_FRAME-clause-hexadecimal
returns-then-number-lt-FIRST_ERROR_FRAME-clause-hexadecimal c =
    (word_of c.args.digits.now c.in_ok-a.field-0 c.told-digits c.in_ok-a.ensures.hexadecimal c.in_ok-a.ensures.value).0

pub returns-then-number-lt-FIRST_ERROR_FRAME-clause-value : goal.returns-then-number-lt-FIRST_ERROR_FRAME-clause-value
returns-then-number-lt-FIRST_ERROR_FRAME-clause-value c =
    let digits = c.args.digits.now in
    let word = word_of digits c.in_ok-a.field-0 c.told-digits c.in_ok-a.ensures.hexadecimal c.in_ok-a.ensures.value in
    let number = ap (option_map (from_be_bytes w32)) word.1 ∙ ap Some (sym c.from_be_bytes-number.ensures) in
    identifier_of digits c.from_be_bytes-number.result word.0 c.told-digits number c.if-number-lt-FIRST_ERROR_FRAME.true
