-- How a command closes after the run of its log: the state is saved, and then the summary is written.
use Rattle.std.specs.Prelude.{◌≡◌, ◌⊎◌, ℕ, List, Option, None, Result, Ok, Err, Some}
use Rattle.n2k_join.specs.declared.counts.Counts.{Counts}
use Rattle.n2k_run.specs.Reports.{summary_text}
use Rattle.n2k_run.specs.declared.fault.RunFault.TheVariants as run
use Rattle.n2k_run.specs.declared.options.Options.{Options}
use Rattle.n2k_run.specs.declared.part.Part.{Part}
use Rattle.n2k_run.specs.declared.part.PartFault.{PartFault}
use Rattle.n2k_run.specs.declared.part.PartFault.TheVariants as part_faults
use Rattle.n2kdec.specs.Run.Commands.{IsWrittenUnlessFailed, Replaces, Place, StoreView, SumsUp}
use Rattle.n2kdec.specs.Fault.{fault_of_run}
use Rattle.n2kdec.specs.Run.Difference.{Differs, Told}
use Rattle.n2kdec.specs.declared.fault.Fault.{Fault}
use Rattle.n2kdec.specs.declared.fault.Fault.TheVariants.{Memory, Read, Save, State}
use Rattle.n2kdec.specs.declared.fault.InputFile.TheVariants as reading
use Rattle.n2kdec.specs.declared.save.keeper.SaveError.{SaveError}

-- A log was taken whole, and this text is to be kept: it is, and the summary gives the answer; or it can't be, and the
-- summary is written all the same.
abbrev pub Closes : StoreView → StoreView → Place → Place → List ℕ → Counts → Result Counts Fault → Type 0
Closes keeper kept errors summed text counts result =
    (Replaces keeper kept text errors.text None × SumsUp errors summed counts result)
    ⊎ ((why : SaveError) × (result ≡ Err (Save why)) × Replaces keeper kept text errors.text (Some why)
    × IsWrittenUnlessFailed errors summed (summary_text counts))

-- What follows the run of a part. After a failed read its state is kept, or can't be, and its counts are summed up; at
-- the limit of lines they are summed up alone; after another fault nothing follows.
abbrev pub ClosesPart : List ℕ → Options → Option (List ℕ) → StoreView → StoreView → Place → Place → Result Part PartFault → Result Counts Fault → Type 0
ClosesPart id o handed keeper kept errors summed (Ok part) result =
    Closes keeper kept errors summed part.state.items part.counts result
ClosesPart id o handed keeper kept errors summed (Err (part_faults.Stopped run.Read part)) result =
    (unkept : Option SaveError) × (result ≡ Err (Read part.counts.lines None unkept))
    × Replaces keeper kept part.state.items errors.text unkept
    × IsWrittenUnlessFailed errors summed (summary_text part.counts)
ClosesPart id o handed keeper kept errors summed (Err (part_faults.Stopped fault part)) result =
    (result ≡ Err (fault_of_run fault part.counts.lines)) × (kept ≡ keeper)
    × IsWrittenUnlessFailed errors summed (summary_text part.counts)
ClosesPart id o handed keeper kept errors summed (Err (part_faults.State fault)) result =
    (of : Told) × Differs id o handed fault of × (result ≡ Err (State fault of)) × (kept ≡ keeper) × (summed ≡ errors)
ClosesPart id o handed keeper kept errors summed (Err (part_faults.Run fault)) result =
    (result ≡ Err (fault_of_run fault 0)) × (kept ≡ keeper) × (summed ≡ errors)
ClosesPart id o handed keeper kept errors summed (Err part_faults.Memory) result =
    (result ≡ Err (Memory (Some reading.Log))) × (kept ≡ keeper) × (summed ≡ errors)
