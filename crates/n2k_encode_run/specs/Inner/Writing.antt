-- The texts and reports that are written after a read.
use Rattle.std.specs.Prelude.{◌≡◌, ℕ, List, Option, Result, Ok, Err}
use Rattle.n2k_run.specs.declared.fault.RunFault.{RunFault}
use Rattle.n2k_run.specs.declared.fault.RunFault.TheVariants.{TooManyLines, Memory}
use Rattle.n2k_run.specs.Inner.Engine.{FailsPending, WritesPending}

-- The texts of the lines taken are written, unless memory was refused. After TooManyLines they are written too. Taking
-- lines gives no other fault.
abbrev pub Settles : Result (Unit {0}) RunFault → List ℕ → List ℕ → Option (List ℕ) → Option (List ℕ) → Option (List ℕ)
    → Option (List ℕ) → ℕ → ℕ → ℕ → ℕ → Result (Unit {0}) RunFault → Type 0
Settles (Ok x) text report w w' e e' fw fw' fe fe' r =
    WritesPending text report w w' e e' r × FailsPending fw fw' fe fe' r
Settles (Err TooManyLines) text report w w' e e' fw fw' fe fe' (Ok y) = ⊥
Settles (Err TooManyLines) text report w w' e e' fw fw' fe fe' (Err TooManyLines) =
    WritesPending {T = Unit {0}} text report w w' e e' (Ok tt) × FailsPending {T = Unit {0}} fw fw' fe fe' (Ok tt)
Settles (Err TooManyLines) text report w w' e e' fw fw' fe fe' (Err fault) =
    WritesPending {T = Unit {0}} text report w w' e e' (Err fault)
    × FailsPending {T = Unit {0}} fw fw' fe fe' (Err fault)
Settles (Err Memory) text report w w' e e' fw fw' fe fe' (Err Memory) =
    (w' ≡ w) × (e' ≡ e) × (fw' ≡ fw) × (fe' ≡ fe)
Settles (Err Memory) text report w w' e e' fw fw' fe fe' _ = ⊥
Settles (Err fault) text report w w' e e' fw fw' fe fe' r = Unit {0}
