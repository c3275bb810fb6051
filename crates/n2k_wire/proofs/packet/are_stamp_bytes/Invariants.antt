use Rattle.std.proofs.Common.{◌≡◌, ◌&&◌, drop}
use Rattle.n2k_wire.specs.Packet.{is_stamp_byte}
use Rattle.std.specs.List.{list_all}
use Rattle.n2k_wire.proofs.packet.are_stamp_bytes.Given as goal

abbrev pub invariant-loop-byte : goal.invariant-loop-byte
invariant-loop-byte l = (l.all && list_all is_stamp_byte (drop l.byte-index l.text)) ≡ list_all is_stamp_byte l.text
