-- A run's promise with other functions that agree, and with another result.
use Rattle.std.proofs.Common.{arith, ◌≡◌, ℕ, List, subst, Option, Result, Ok, Err, IfSome, append-nil, OnOk}
use Rattle.std.specs.Io.KnownBytes.{Consumes, IsAtEnd}
use Rattle.n2k_wire.specs.declared.entry.Entry.{Entry}
use Rattle.n2k_wire.specs.declared.entry.Packing.{Packing}
use Rattle.n2k_run.specs.declared.fault.RunFault.{RunFault}
use Rattle.n2k_run.specs.Runs.{Devices, IsWhole, Output, Runs}

-- outputs are equal that agree on all entries
pub output_same : (packing : Packing) (counted : ℕ) (texts texts' reports reports' : List Entry → List ℕ) → ((es : List Entry) → texts es ≡ texts' es) → ((es : List Entry) → reports es ≡ reports' es)
    → record { packing = packing; counted = counted; texts = texts; reports = reports } ≡ (let o : Output = record { packing = packing; counted = counted; texts = texts'; reports = reports' } in o)
output_same packing counted texts texts' reports reports' same_texts same_reports = grind arith

pub runs_same : {T : Type 0} (o o' : Output) (stands : List Entry → Type 0) (before after : Devices) (result : Result T RunFault) → o ≡ o' → Runs o stands before after result → Runs o' stands before after result
runs_same o o' stands before after result same runs = subst (λ (p : Output). Runs p stands before after result) same runs

-- the bytes that came until the source had no more are all of its bytes
pub all_came : (P : List ℕ → Type 0) (left₀ left : Option (List ℕ)) (came : List ℕ) → Consumes left₀ left came → IsAtEnd left → P came → IfSome left₀ P
all_came P left₀ left came given end here = grind (arith, append-nil)

-- a property of the bytes of a run that came to its end holds of its log
pub of_log : (o : Output) (stands : List Entry → Type 0) (before after : Devices) (P : List ℕ → Type 0) (whole : IsWhole o stands before after) → P whole.came → IfSome before.left P
of_log o stands before after P whole here = all_came P before.left after.left whole.came whole.given whole.at_end here

-- a property of the bytes of a whole run, if the result is Ok
pub log_if_ok : {T : Type 0} (o : Output) (stands : List Entry → Type 0) (before after : Devices) (P : List ℕ → Type 0) (result : Result T RunFault) → Runs o stands before after result
    → ((whole : IsWhole o stands before after) → P whole.came) → OnOk result (IfSome before.left P)
log_if_ok o stands before after P (Ok x) runs here = of_log o stands before after P runs.ends (here runs.ends)
log_if_ok o stands before after P (Err fault) runs here = tt

module _ (o : Output) (stands stands' : List Entry → Type 0) (before after : Devices) where
  pub ok_more : {T U : Type 0} (x : T) (y : U) → Runs {T = T} o stands before after (Ok x) → ((es : List Entry) → stands es → stands' es) → Runs {T = U} o stands' before after (Ok y)
  ok_more x y runs follows = grind arith

  pub err_more : (T U : Type 0) (fault : RunFault) → Runs {T = T} o stands before after (Err fault) → ((es : List Entry) → stands es → stands' es) → Runs {T = U} o stands' before after (Err fault)
  err_more T U fault runs follows = grind arith

  -- a run's result, with a property that follows from the run's
  pub runs_more : {T : Type 0} (result : Result T RunFault) → Runs o stands before after result → ((es : List Entry) → stands es → stands' es) → Runs o stands' before after result
  runs_more (Ok x) runs follows = ok_more x x runs follows
  runs_more {T} (Err fault) runs follows = err_more T T fault runs follows
