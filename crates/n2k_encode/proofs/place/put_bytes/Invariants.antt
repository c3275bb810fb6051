use Rattle.std.proofs.Common.{◌≡◌, drop}
use Rattle.n2k_encode.specs.Place.{put_bytes}
use Rattle.n2k_encode.proofs.place.put_bytes.Given as goal

-- with the bytes that are left all are set
abbrev pub invariant-loop-byte : goal.invariant-loop-byte
invariant-loop-byte l = put_bytes l.«data» l.place (drop l.byte-index l.bytes) ≡ put_bytes l.fn.«data» l.at l.bytes
