-- The results of the steps of a part's run, and the source of a part in memory.
use Rattle.std.specs.Prelude.{◌≡◌, ℕ, List, Option, Result, Ok, Err}
use Rattle.n2k_table.specs.declared.definition.Kind.{Kind}
use Rattle.n2k_join.specs.Resumed.{resumed}
use Rattle.n2k_join.specs.Saved.{IsId, state_text}
use Rattle.n2k_join.specs.State.{State, AreFast}
use Rattle.n2k_run.specs.declared.fault.RunFault.{RunFault}
use Rattle.n2k_run.specs.declared.part.Part.{Part}
use Rattle.n2k_run.specs.declared.part.PartFault.{PartFault}
use Rattle.n2k_run.specs.declared.part.PartFault.TheVariants.{State as Refused, Stopped, Run, Memory}
use Rattle.n2k_run.specs.Parts.{EndsAtLine}

-- a part in memory: its remaining bytes, and the calls that were made of its source
pub record PartLeft : Type 0 where
  pub left : List ℕ
  pub calls : ℕ

-- the text and the counts of a state, and the text reads back under each table that it can be of
pub record Saves (s : State) (part : Part) : Type 0 where
  pub saved : part.state.items ≡ state_text s
  pub counted : part.counts ≡ s.counts
  pub reads_back : (kind : ℕ → Option Kind) → AreFast kind s.groups → IsId s.id
      → resumed kind s.id s.window (state_text s) ≡ Ok s

abbrev pub HasSaved : Result Part PartFault → State → Type 0
HasSaved (Ok part) s = Saves s part
HasSaved (Err (Stopped fault part)) s = Saves s part
HasSaved _ s = Unit {0}

-- the result after a run
abbrev pub Finishes : Result Part PartFault → Result (Unit {0}) RunFault → Type 0
Finishes (Ok part) ran = ran ≡ Ok tt
Finishes (Err (Stopped fault part)) ran = ran ≡ Err fault
Finishes (Err (Run fault)) ran = ran ≡ Err fault
Finishes (Err Memory) ran = EndsAtLine ran
Finishes (Err (Refused fault)) ran = ⊥
