-- Steps that may find no value, in sequence.
use Rattle.std.specs.Prelude.{◌≡◌, ⊤, Bool, List, ◌++◌, Option, Some, None, Result, Ok, Err}
use Rattle.n2k_encode.specs.declared.refusal.EncodeError.{EncodeError}
use Rattle.n2k_encode.specs.declared.refusal.EncodeError.TheVariants.{Memory, Refused}
use Rattle.n2k_encode.specs.declared.refusal.Refusal.{Refusal}
use Rattle.n2k_encode.specs.Refusal.{CauseParts, cause}

infixl 10 ◌>>=◌
abbrev pub ◌>>=◌ : {A B : Type 0} → Option A → (A → Option B) → Option B
(Some x) >>= f = f x
None >>= f = None

-- the result of a test of a value; false if there is none
abbrev pub is_some_with : {A : Type 0} → (A → Bool) → Option A → Bool
is_some_with p None = Bool.false
is_some_with p (Some x) = p x

-- If the code returns a value, the definition gives the same; if the code refuses, the definition gives none.
abbrev pub Yields : {X Y E : Type 0} → (X → Y) → Result X E → Option Y → Type 0
Yields view (Ok x) said = said ≡ Some (view x)
Yields view (Err cause) said = said ≡ None

-- The code returns the value or the cause that the definition gives, unless memory was refused.
abbrev pub Gives : {X Y : Type 0} → (X → Y) → Result X EncodeError → Result Y CauseParts → Type 0
Gives view (Ok x) said = said ≡ Ok (view x)
Gives view (Err Memory) said = ⊤
Gives view (Err (Refused refusal)) said = said ≡ Err (cause refusal)

-- a list, then the list of a result; a refusal stays
abbrev pub before_all : {X : Type 0} → List X → Result (List X) CauseParts → Result (List X) CauseParts
before_all prefix (Ok xs) = Ok (prefix ++ xs)
before_all prefix (Err cause) = Err cause

-- the first value if it exists, otherwise the second
abbrev pub first_of : {A : Type 0} → Option A → Option A → Option A
first_of None other = other
first_of (Some x) other = Some x

-- the cause of a refusal
abbrev pub refusal_in : {A : Type 0} → Result A Refusal → Option CauseParts
refusal_in (Ok x) = None
refusal_in (Err refusal) = Some (cause refusal)
