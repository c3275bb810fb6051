-- Lines that spell no object without a key that comes twice.
use Rattle.std.proofs.Common.{◌≡◌, ℕ, Bool, List, Option, Some, None, inl, inr}
use Rattle.std.specs.Prelude.{IsSomeAnd, IfErr, Result, Ok, Err}
use Rattle.std.specs.Str.{IsUtf8}
use Rattle.json.specs.Json.{Json, document}
use Rattle.json.specs.Strict.{HasUniqueKeys}
use Rattle.n2k_wire.specs.Packet.{PacketParts}
use Rattle.n2k_table.specs.Table.{TableParts}
use Rattle.n2k_encode.specs.declared.refusal.EncodeError.{EncodeError}
use Rattle.n2k_encode.specs.declared.refusal.EncodeError.TheVariants.{Memory, Refused}
use Rattle.n2k_encode.specs.Encoded.{IsNoObject, IsObjectOf, IsLineCause}
use Rattle.n2k_encode.specs.Payload.{encoded}
use Rattle.n2k_encode.specs.Steps.{Gives}
use Rattle.n2k_encode.specs.Refusal.{IfRefused, not_json}

pub not_utf8 : (line : List ℕ) → ¬ IsUtf8 line → IsNoObject line
not_utf8 line not j o = not o.utf8

none_spelled : (j : Json) (found : Option Json) → found ≡ Some j → found ≡ None → ⊥
none_spelled j None is none = absurd cc
none_spelled j (Some k) is none = absurd cc

pub not_spelled : (line : List ℕ) → document line ≡ None → IsNoObject line
not_spelled line none j o = none_spelled j (document line) o.spelled none

not_unique_here : (j : Json) (found : Option Json) → found ≡ Some j → HasUniqueKeys j → IsSomeAnd found (λ k. ¬ HasUniqueKeys k) → ⊥
not_unique_here j None is unique twice = absurd cc
not_unique_here j (Some k) is unique twice =
    let same : k ≡ j = cc in
    twice (rw same unique)

pub not_unique : (line : List ℕ) → IsSomeAnd (document line) (λ k. ¬ HasUniqueKeys k) → IsNoObject line
not_unique line twice j o = not_unique_here j (document line) o.spelled o.unique twice

-- the cause of a line that spells no such object
pub none_cause : (t : TableParts) (nearest : Bool) (line : List ℕ) (e : EncodeError) → IfRefused e (λ c. IsNoObject line × (c ≡ not_json)) → IfRefused e (IsLineCause t nearest line)
none_cause t nearest line Memory h = tt
none_cause t nearest line (Refused r) h = inl h

-- the cause of an object is that of its line
pub object_cause_in : (t : TableParts) (nearest : Bool) (line : List ℕ) (j : Json) (r : Result PacketParts EncodeError) → IsObjectOf line j → Gives (λ p. p) r (encoded t nearest j)
    → IfErr r (λ e. IfRefused e (IsLineCause t nearest line))
object_cause_in t nearest line j (Ok x) is h = tt
object_cause_in t nearest line j (Err Memory) is h = tt
object_cause_in t nearest line j (Err (Refused r)) is h = inr (j, is, h)
