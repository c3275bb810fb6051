-- Steps that may fail, one after another: the cause is that of the first step that fails.
use Rattle.std.specs.Prelude.{Bool, true, false, Option, Some, None, Result, Ok, Err}

infixl 10 ◌>>=◌
abbrev pub ◌>>=◌ : {A B E : Type 0} → Result A E → (A → Result B E) → Result B E
(Ok x) >>= f = f x
(Err cause) >>= f = Err cause

-- the value, or this cause if there is none
abbrev pub or_cause : {A E : Type 0} → E → Option A → Result A E
or_cause cause None = Err cause
or_cause cause (Some x) = Ok x

-- go on if the test holds, else this cause
abbrev pub holds_or : {E : Type 0} → E → Bool → Result (Unit {0}) E
holds_or cause true = Ok tt
holds_or cause false = Err cause

-- a value if the test holds
abbrev pub some_if : {A : Type 0} → Bool → A → Option A
some_if true x = Some x
some_if false x = None
