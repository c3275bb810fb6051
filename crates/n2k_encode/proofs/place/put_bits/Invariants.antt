use Rattle.std.proofs.Common.{◌-◌, ◌≡◌, ◌≤◌}
use Rattle.n2k_encode.specs.Place.{put_bits}
use Rattle.n2k_encode.proofs.place.put_bits.Given as goal

-- the bits so far are set
abbrev pub invariant-loop-done : goal.invariant-loop-done
invariant-loop-done l = (l.«data» ≡ put_bits l.fn.«data» l.at l.done l.raw) × (l.done ≤ l.bits)

abbrev pub decreases-loop-done : goal.decreases-loop-done
decreases-loop-done l = l.bits - l.done
