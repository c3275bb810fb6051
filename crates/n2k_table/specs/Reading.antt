-- How a table is read: one thing after the other, up to the first fault.
use Rattle.std.specs.Prelude.{◌≡◌, ◌≢◌, List, [], ◌∷◌, ◌++◌, Result, Ok, Err}
use Rattle.n2k_table.specs.declared.fault.TableFault.{TableFault}
use Rattle.n2k_table.specs.declared.fault.TableFault.TheVariants.{Memory}
use Rattle.n2k_wire.specs.Steps.{◌>>=◌}

-- each of a list read in turn
abbrev pub each : {D A : Type 0} → (D → Result A TableFault) → List D → Result (List A) TableFault
each read [] = Ok []
each read (d ∷ ds) = do
  x ← read d
  xs ← each read ds
  Ok (x ∷ xs)

-- each of a list read in turn, by what was read before it; with that at its front
abbrev pub each_by_earlier : {D A : Type 0} → (List A → D → Result A TableFault) → List A → List D
    → Result (List A) TableFault
each_by_earlier read before [] = Ok before
each_by_earlier read before (d ∷ ds) = do
  x ← read before d
  each_by_earlier read (before ++ x ∷ []) ds

-- What a reader returns, seen by view, is what reading gives, unless memory ran out.
abbrev pub ReaderGives : {X Y : Type 0} → (X → Y) → Result X TableFault → Result Y TableFault → Type 0
ReaderGives view (Ok x) read = read ≡ Ok (view x)
ReaderGives view (Err fault) read = fault ≢ Memory → read ≡ Err fault
