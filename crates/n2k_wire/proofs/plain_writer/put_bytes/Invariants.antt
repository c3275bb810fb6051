use Rattle.std.proofs.Common.{◌≡◌, ◌+◌, ◌*◌, ◌++◌, length, take}
use Rattle.std.specs.List.{flat_map}
use Rattle.n2k_wire.specs.Texts.{byte_column}
use Rattle.n2k_wire.proofs.plain_writer.put_bytes.Given as goal

abbrev pub invariant-loop-byte : goal.invariant-loop-byte
invariant-loop-byte l = record {
  bytes : take l.at l.text ≡ take l.at-2 l.initial.text ++ flat_map byte_column (take l.byte-index l.bytes);
  at : l.at ≡ l.at-2 + 3 * l.byte-index;
  len : length l.text ≡ length l.initial.text;
}
