-- The entry of the next line, as the maker takes it.
use Rattle.std.proofs.Common.{arith, ◌≡◌, ℕ, ◌<◌, List, length, Option, Result, Ok, Bor}
use Rattle.n2k_wire.specs.declared.entry.BadCause.TheVariants as causes
use Rattle.n2k_wire.specs.declared.entry.Entry.{Entry}
use Rattle.n2k_wire.specs.declared.entry.Entry.TheVariants.{Bad}
use Rattle.n2k_wire.specs.declared.entry.Packing.{Packing}
use Rattle.n2k_wire.specs.Entry.{entry, longest_line}
use Rattle.n2k_run.specs.declared.blocks.Next.TheVariants.{Line, Long}
use Rattle.n2k_run.specs.declared.fault.RunFault.{RunFault}
use Rattle.n2k_run.specs.Blocks.{BlocksView, Answers}
use Rattle.n2k_run.specs.Fold.{Fold}
use Rattle.n2k_run.specs.Inner.Engine.{NextEntry, TakesEntry, TakesNext}

-- a line over the limit has the entry of one
long_entry : (line : List ℕ) (packing : Packing) → longest_line < length line → Bad causes.Long ≡ entry line packing
unfolding entry
long_entry line packing long = grind arith

module _ {S : Type 0} (m : Fold S) (packing : Packing) (s s' : S) (old new : BlocksView) (left₀ left : Option (List ℕ)) (text text' report report' : List ℕ) where
  pub takes_entry : {T : Type 0} (x : Entry) (result : Result T RunFault) → NextEntry packing old new left₀ left x → TakesEntry m s s' x text text' report report' result → TakesNext m packing s s' old new left₀ left text text' report report' result
  takes_entry x result next takes = grind arith

  pub takes_line : {T : Type 0} (line : Bor (List ℕ)) (calls₀ calls : ℕ) (result : Result T RunFault) → Answers old new left₀ left calls₀ calls (Ok (Line line)) → TakesEntry m s s' (entry line.now packing) text text' report report' result → TakesNext m packing s s' old new left₀ left text text' report report' result
  takes_line line calls₀ calls result a takes = grind (arith, takes_entry)

  pub takes_long : {T : Type 0} (calls₀ calls : ℕ) (result : Result T RunFault) → Answers old new left₀ left calls₀ calls (Ok Long) → TakesEntry m s s' (Bad causes.Long) text text' report report' result → TakesNext m packing s s' old new left₀ left text text' report report' result
  takes_long calls₀ calls result a takes = grind (arith, takes_entry, long_entry)
