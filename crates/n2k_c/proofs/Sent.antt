-- What a handle owns may go to another thread.
use mir.Raw.{raw}
use base.Fraction.{full_share}
use base.Shift.{Keyless}
use denote.Memory.{lone}
use denote.RattleType.{RattleType}
use denote.RawPtr.{Ptr, block_ptr, null_ptr, lies_at}
use denote.Param.Send.{IsSend, part_keyless}
use Rattle.std.specs.Prelude.{Option, Some, None}
use Rattle.std.proofs.Crossing.{frees}
use Rattle.n2k_c.specs.DecoderView.{heap, owned_of}

-- the value that a pointer owns
lies : (R : RattleType) → IsSend R → (p : Ptr) (x : R.Denot) → Keyless (lies_at R full_share p x)
lies R s (block_ptr b o) x = part_keyless R s full_share x b o
lies R s null_ptr x = tt

-- a box, or nothing
pub owned_keyless : (R : RattleType) → IsSend R → (p : Ptr) (held : Option R.Denot) → Keyless (owned_of R p held)
owned_keyless R s p None = tt
owned_keyless R s p (Some x) = (lies R s p x, frees.frees heap (raw (lone R.mir)) p)
