-- Fields before which there is no string.
use Rattle.std.proofs.Common.{◌≡◌, ℕ, true, List, [], ◌∷◌, refl, sym, ap}
use Rattle.std.proofs.lemmas.Bool.{false≢true}
use Rattle.n2k_table.specs.declared.string_place.Step.{Step}
use Rattle.n2k_table.specs.Field.{FieldParts}
use Rattle.n2k_table.specs.Shown.{lies_inside, shown_from, shown_if_there, shown}
use Rattle.n2k_table.specs.Strings.{data_after}
use Rattle.n2k_table.specs.Inner.FieldValue.{inside_after, stands_inside}

by_strings : (ss : List Step) (f : FieldParts) (payload : List ℕ) → inside_after ss f payload ≡ true → (ss ≡ []) × (lies_inside f payload ≡ true)
by_strings [] f payload is = (refl, is)
by_strings (s ∷ ss) f payload is = absurd (false≢true is)

-- a field in the data that no string precedes
pub fixed : (f : FieldParts) (payload : List ℕ) → stands_inside f payload ≡ true → (f.after ≡ []) × (lies_inside f payload ≡ true)
fixed f payload is = by_strings f.after f payload is

-- if no string precedes, all of the data count
pub shows_at_once : (f : FieldParts) (payload : List ℕ) → f.after ≡ [] → shown_from f payload ≡ shown f payload
shows_at_once f payload none = sym (ap (λ (ss : List Step). shown_if_there f (data_after ss payload)) none)
