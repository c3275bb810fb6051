-- What a refused state is of: the table or the window that it was saved under, and that of this run.
use Rattle.std.specs.Prelude.{◌≡◌, ◌==◌, ℕ, List, Option, Some, None, Result, Ok, IfOk, codes, if◌then◌else◌, length}
use Rattle.std.specs.Prelude.{option_and_then, option_map}
use Rattle.std.specs.declared.alloc.AllocError.{AllocError}
use Rattle.hex.specs.Hex.{encode_lower}
use Rattle.serde_json.specs.Data.{Data}
use Rattle.serde_json.specs.Find.{get, as_str}
use Rattle.clap.specs.Words.{Text}
use Rattle.n2k_join.specs.Resumed.{as_int, parsed}
use Rattle.n2k_join.specs.declared.fault.StateFault.{StateFault}
use Rattle.n2k_join.specs.declared.fault.StateFault.TheVariants.{TableDiffers, WindowDiffers}
use Rattle.n2k_run.specs.declared.options.Options.{Options}
use Rattle.n2kdec.specs.declared.run.difference.StateMismatch.{StateMismatch}
use Rattle.n2kdec.specs.declared.run.difference.StateMismatch.TheVariants.{Tables, Windows}

-- a text that has as many digits as a SHA-256
abbrev pub digits_in : Text → Option Text
digits_in text = if length text == 64 then Some text else None

-- The table with which the state of a value was saved, as the state has it, and the one of this SHA-256 that it is handed
-- in with.
abbrev pub tables_in : List ℕ → Data → Option StateMismatch
tables_in id d =
    option_map (λ saved. Tables saved (encode_lower id))
    (option_and_then digits_in (option_and_then as_str (get (codes "table") d)))

-- the lines of the window that it was saved under, and these
abbrev pub windows_in : ℕ → Data → Option StateMismatch
windows_in lines d = option_map (λ saved. Windows saved lines) (option_and_then as_int (get (codes "window") d))

-- what is reported of a refused state, if anything, or that memory for it was refused
abbrev pub Told : Type 0
Told = Result (Option StateMismatch) AllocError

-- Both tables, or both windows, if a state is refused because they differ, unless memory for them was refused. Other faults
-- have neither.
abbrev pub Differs : List ℕ → Options → Option (List ℕ) → StateFault → Told → Type 0
Differs id o (Some state) TableDiffers told = IfOk told (λ known. known ≡ option_and_then (tables_in id) (parsed state))
Differs id o (Some state) WindowDiffers told = IfOk told (λ known. known ≡ option_and_then (windows_in o.window.lines) (parsed state))
Differs id o handed _ told = told ≡ Ok None
