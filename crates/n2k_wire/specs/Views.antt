-- A function's result is the value of a definition, through the view that contracts use. The crates above use these
-- definitions, too.
use Rattle.std.specs.Prelude.{◌≡◌, Option, Some, None, Result, Ok, Err}

-- A returned value, seen by `view`, is the definition's value, and a refusal is its refusal.
abbrev pub Gives : {X Y E : Type 0} → (X → Y) → Result X E → Result Y E → Type 0
Gives view (Ok x) said = said ≡ Ok (view x)
Gives view (Err cause) said = said ≡ Err cause

-- A returned option, seen by `view`, is the definition's option.
abbrev pub Finds : {X Y : Type 0} → (X → Y) → Option X → Option Y → Type 0
Finds view (Some x) said = said ≡ Some (view x)
Finds view None said = said ≡ None
