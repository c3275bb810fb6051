use Rattle.std.proofs.Common.{◌≡◌, ◌^◌, ◌<◌, drop}
use Rattle.n2k_wire.specs.Digits.{decimal_after}
use Rattle.n2k_wire.proofs.digits.decimal_digits.Given as goal

abbrev pub invariant-loop-byte : goal.invariant-loop-byte
invariant-loop-byte l = record {
  short : l.number < 10 ^ l.byte-index;
  read : decimal_after l.number (drop l.byte-index l.digits) ≡ decimal_after 0 l.digits;
}
