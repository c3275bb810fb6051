-- The calls of a source, by the bytes that came.
use Rattle.std.proofs.Common.{◌≡◌, ◌⊎◌, ℕ, ◌+◌, ◌<◌, ◌≤◌, Bool, true, false, List, [], ◌++◌, length, subst, arith, length-append, Option, Some, Result, Ok, if◌then◌else◌}
use Rattle.std.specs.Io.KnownBytes.{Consumes}
use Rattle.std.proofs.KnownBytes.{Consumes-nil, Consumes-trans}
use Rattle.n2k_run.specs.declared.blocks.Next.{Next}
use Rattle.n2k_run.specs.declared.fault.RunFault.{RunFault}
use Rattle.n2k_run.specs.Blocks.{BlocksView, Answers}
use Rattle.n2k_run.specs.Device.{HasFailed, one_more}
use Rattle.n2k_run.specs.Reading.{OutlastsReads, ReadsBytes, idle_calls, most_reads}

-- a count never rises by more than one
pub one_more_at_most : (calls : ℕ) → one_more calls ≤ calls + 1
one_more_at_most calls = grind arith

-- at most one call gives no byte
ended_once : (b : Bool) → (if b then 1 else 0) ≤ 1
ended_once b = grind arith

-- at the end, one call gives no byte
pub idle_at_end : (ended : Bool) → ended ≡ true → 1 ≤ (if ended then 1 else 0)
idle_at_end ended is = grind arith

-- no call was made
pub none_read : (left : Option (List ℕ)) (calls : ℕ) → ReadsBytes 0 left left calls calls
none_read left calls = record { came = []; given = Consumes-nil left; few = omega arith }

pub within_one : (idle : ℕ) (left₀ left : Option (List ℕ)) (calls₀ calls : ℕ) → idle ≤ 1 → ReadsBytes idle left₀ left calls₀ calls → ReadsBytes 1 left₀ left calls₀ calls
within_one idle left₀ left calls₀ calls once reads = record { came = reads.came; given = reads.given; few = omega (arith, reads.few, once) }

pub ended_within_one : (ended : Bool) (left₀ left : Option (List ℕ)) (calls₀ calls : ℕ) → ReadsBytes (if ended then 1 else 0) left₀ left calls₀ calls → ReadsBytes 1 left₀ left calls₀ calls
ended_within_one ended left₀ left calls₀ calls reads = within_one _ left₀ left calls₀ calls (ended_once ended) reads

-- reading went on
pub reads_on : (ended : Bool) (idle : ℕ) (left₀ left left' : Option (List ℕ)) (calls₀ calls calls' : ℕ) → ended ≡ false → ReadsBytes (if ended then 1 else 0) left₀ left calls₀ calls → ReadsBytes idle left left' calls calls' → ReadsBytes idle left₀ left' calls₀ calls'
reads_on ended idle left₀ left left' calls₀ calls calls' on before after =
    let all : ReadsBytes 0 left₀ left calls₀ calls = subst (λ (b : Bool). ReadsBytes (if b then 1 else 0) left₀ left calls₀ calls) on before in
    record {
      came = all.came ++ after.came;
      given = Consumes-trans left₀ left left' all.came after.came all.given after.given;
      few = omega (arith, all.few, after.few, length-append all.came after.came);
    }

-- the calls of finding a line are the calls of the whole step, even if the line is refused
pub reads_of_answer : {T : Type 0} (old new : BlocksView) (left₀ left : Option (List ℕ)) (calls₀ calls : ℕ) (next : Next) (result : Result T RunFault) → Answers old new left₀ left calls₀ calls (Ok next) → ReadsBytes (idle_calls new.has_ended result) left₀ left calls₀ calls
reads_of_answer old new left₀ left calls₀ calls next result a = grind arith

-- no more bytes come of a source than it has
pub came_within : (log came : List ℕ) (left : Option (List ℕ)) → Consumes (Some log) left came → length came ≤ length log
came_within log came left given = grind (arith, length-append)

-- the end of a source that never fails is found, if it has fewer bytes than reads are made
pub end_found : (log : List ℕ) (left : Option (List ℕ)) (calls : ℕ) → length log + 1 < most_reads → ReadsBytes 1 (Some log) left 0 calls → HasFailed 0 0 ⊎ OutlastsReads 0 calls → ⊥
end_found log left calls few reads h = grind (arith, came_within)
