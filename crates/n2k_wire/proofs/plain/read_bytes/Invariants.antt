use Rattle.std.proofs.Common.{◌≡◌, ◌+◌, length}
use Rattle.n2k_wire.specs.Plain.{pairs}
use Rattle.n2k_wire.specs.Inner.Plain.{columns_left}
use Rattle.n2k_wire.proofs.PlainLemmas.{with_prefix}
use Rattle.n2k_wire.proofs.plain.read_bytes.Given as goal

abbrev pub invariant-loop : goal.invariant-loop
invariant-loop l = record {
  taken : length l.bytes.items ≡ l.counter;
  columns : l.counter + length (columns_left l.left) ≡ length (columns_left l.more);
  read : with_prefix l.bytes.items (pairs (columns_left l.left)) ≡ pairs (columns_left l.more);
}
