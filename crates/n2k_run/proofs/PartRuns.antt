-- The promise of a part's run, from that of the run, and the Part of a run that saves no state.
use Rattle.std.proofs.Common.{arith, ◌≡◌, ◌++◌, ◌<◌, ◌^◌, ℕ, List, Option, Result, Ok, subst, refl, length}
use Rattle.std.specs.declared.alloc.Global.{Global}
use denote.RawPtr.{null_ptr}
use native.Mathlib.Nat.{le_refl}
use Rattle.n2k_wire.specs.declared.entry.Entry.{Entry}
use Rattle.n2k_table.specs.declared.definition.Kind.{Kind}
use Rattle.n2k_table.specs.Table.{TableParts, kind}
use Rattle.n2k_join.specs.Resumed.{resumed}
use Rattle.n2k_join.specs.Saved.{IsId, state_text}
use Rattle.n2k_join.specs.State.{State, IsState, AreFast, state}
use Rattle.n2k_join.specs.Window.{IsWindow}
use Rattle.n2k_join.proofs.StateBound.{state-short}
use Rattle.n2k_run.specs.declared.fault.RunFault.{RunFault}
use Rattle.n2k_run.specs.declared.options.Options.{Options}
use Rattle.n2k_run.specs.declared.part.Part.{Part}
use Rattle.n2k_run.specs.declared.part.PartFault.{PartFault}
use Rattle.n2k_run.specs.Decoded.{join_fold, output_after}
use Rattle.n2k_run.specs.Entries.{entries}
use Rattle.n2k_run.specs.Fold.{after_all}
use Rattle.n2k_run.specs.Inner.Parts.{Finishes, HasSaved, Saves}
use Rattle.n2k_run.specs.Parts.{HasPart, IsOfKind, RunsFrom, TellsRun, begun, with_part}
use Rattle.n2k_run.specs.Runs.{Devices, Runs, output_from}
use Rattle.n2k_run.proofs.GoingOn.{continues_of}
use Rattle.n2k_run.proofs.LogSteps.{LogLaws}
use Rattle.n2k_run.proofs.Parting.{KeepsFast, begins_by, log_of, not_refused, steps_of}

pub runs_from : (laws : KeepsFast) (t : TableParts) (o : Options) → IsWindow o.window.lines → LogLaws o.window → IsId t.id → (before after : Devices)
    (handed : Option (List ℕ)) (join join' : State) (ran : Result (Unit {0}) RunFault) (result : Result Part PartFault) → begun t o handed ≡ Ok join
    → Runs (output_from (join_fold t o.empty) o.packing join) (λ es. join' ≡ after_all (join_fold t o.empty) join es) before after ran → HasSaved result join' → Finishes result ran
    → IsOfKind result → RunsFrom t o handed before after result
runs_from laws t o window logs id before after handed join join' ran result began runs saved finishes kinds =
    let steps = steps_of laws t o window handed join join' before after ran result id began runs saved finishes in
    let log : (prefix : List Entry) → begun t o handed ≡ Ok (state t.id o.window (kind t) prefix) → TellsRun (output_after t o prefix) (λ es. HasPart t o result (state t.id o.window (kind t) (prefix ++ es))) before after result = λ prefix is.
    log_of t o logs before after result prefix (steps (state t.id o.window (kind t) prefix) is) in
    record {
      fault_kinds = kinds;
      begins = begins_by t o handed join result ran began finishes;
      untouched = not_refused result ran (after ≡ before) finishes;
      steps = steps;
      log = log;
      headline = λ prefix is. continues_of t o logs prefix is.whole_lines before after result (log (entries o.packing prefix) is.leads_to) kinds
          (λ fault at. absurd (subst (λ r. Finishes r ran) at finishes));
    }

-- ---- the Part that a run leaves out

-- the text of a state is no longer than a vector can be
fits : (s : State) → IsState s → IsId s.id → length (state_text s) < 2 ^ 63
fits s is id = omega (arith, state-short s is id, is.held, is.counted.broken, is.counted.lines)

-- the Part of a state
pub part_of : Global → (s : State) → IsState s → IsId s.id → Part
part_of heap s is id =
    let text = state_text s in
    record {
      state = record { ptr = null_ptr; len = length text; cap = length text; alloc = heap; items = text; ok = (refl, le_refl (length text)); small = fits s is id };
      counts = s.counts;
    }

pub part_saves : (heap : Global) (s : State) (is : IsState s) (id : IsId s.id)
    → ((kind : ℕ → Option Kind) (s : State) → IsState s → AreFast kind s.groups → IsId s.id → resumed kind s.id s.window (state_text s) ≡ Ok s) → Saves s (part_of heap s is id)
unfolding state_text part_of
part_saves heap s is id back = record { saved = refl; counted = refl; reads_back = λ kind fast known. back kind s is fast known }

module _ (part : Part) where
  pub saves_with : (s : State) (ran : Result (Unit {0}) RunFault) → Saves s part → HasSaved (with_part part ran) s
  saves_with s ran saves = grind arith

  pub finishes_with : (ran : Result (Unit {0}) RunFault) → Finishes (with_part part ran) ran
  finishes_with ran = grind arith

  pub kind_with : (ran : Result (Unit {0}) RunFault) → IsOfKind (with_part part ran)
  kind_with ran = grind arith
