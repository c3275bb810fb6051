-- Lists of values, read one after the other.
use Rattle.std.proofs.Common.{◌≡◌, Bool, ◌&&◌, List, [], ◌∷◌, ◌++◌, Result, Ok, Err, String, Global, string_bytes, map, flat_map, refl, sym, ap, ◌∙◌, append_assoc}
use Rattle.std.specs.List.{list_all}
use Rattle.std.specs.Map.{keys_of}
use Rattle.json.specs.Token.{Token}
use Rattle.json.specs.Tree.{items_tokens}
use Rattle.serde_json.specs.Data.{Data}
use Rattle.serde_json.specs.Written.{items_outline}
use Rattle.serde_json.specs.View.{items_of, members_view}
use Rattle.serde_json.specs.declared.value.Value.{Value}
use Rattle.n2k_join.specs.declared.saved.object.Object.{Object}
use Rattle.n2k_join.specs.declared.fault.StateFault.{StateFault}
use Rattle.n2k_join.specs.Inner.SavedTokens.{tokens_of}
use Rattle.n2k_join.specs.Resumed.{values_in, is_name, has_only}

-- the elements of an array that was made of a list
pub elements-items_of : (ds : List Data) → values_in (items_of ds) ≡ ds
elements-items_of [] = refl
elements-items_of (d ∷ ds) = ap (λ rest. d ∷ rest) (elements-items_of ds)

-- the items read first, followed by the result for the rest
abbrev pub after : {A : Type 0} → List A → Result (List A) StateFault → Result (List A) StateFault
after xs (Ok ys) = Ok (xs ++ ys)
after xs (Err fault) = Err fault

-- the names of an object, in its map and in its view
pub has_only-view : (place : Object) (es : List (String Global × Value)) → has_only place (members_view es) ≡ list_all (λ k. is_name place (string_bytes k)) (keys_of es)
has_only-view place [] = refl
has_only-view place (e ∷ es) = ap (λ (b : Bool). is_name place (string_bytes e.0) && b) (has_only-view place es)

-- the tokens of a list of values: the tokens of its elements, and the closing bracket
pub items_tokens-map : {X : Type 0} (f : X → Data) (xs : List X)
    → items_tokens (items_outline (items_of (map f xs))) ≡ flat_map (λ x. tokens_of (f x)) xs ++ Token.end_array ∷ []
items_tokens-map f [] = refl
items_tokens-map f (x ∷ xs) = ap (λ ts. tokens_of (f x) ++ ts) (items_tokens-map f xs) ∙ sym (append_assoc (tokens_of (f x)) _ _)

-- tokens that are written in turn
pub six_written : {X : Type 0} (o a b c d e f o1 o2 o3 o4 o5 o6 : List X)
    → o1 ≡ o ++ a → o2 ≡ o1 ++ b → o3 ≡ o2 ++ c → o4 ≡ o3 ++ d → o5 ≡ o4 ++ e → o6 ≡ o5 ++ f
    → o6 ≡ o ++ (a ++ (b ++ (c ++ (d ++ (e ++ f)))))
six_written o a b c d e f o1 o2 o3 o4 o5 o6 p1 p2 p3 p4 p5 p6 = rw (p6, p5, p4, p3, p2, p1) (simp append_assoc)
