-- The results of the readers of a saved state.
use Rattle.std.specs.Prelude.{◌≡◌, ◌≢◌, Result, Ok, Err}
use Rattle.n2k_join.specs.declared.fault.StateFault.{StateFault}
use Rattle.n2k_join.specs.declared.fault.StateFault.TheVariants.{Memory}

-- A reader's result, through view, is the defined one, unless memory ran out.
abbrev pub GivesOrMemory : {X Y : Type 0} → (X → Y) → Result X StateFault → Result Y StateFault → Type 0
GivesOrMemory view (Ok x) read = read ≡ Ok (view x)
GivesOrMemory view (Err fault) read = fault ≢ Memory → read ≡ Err fault
