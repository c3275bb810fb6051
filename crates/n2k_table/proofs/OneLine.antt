-- A JSON line is one line: it contains no byte below the space before the line feed at its end.
use Rattle.std.proofs.Common.{◌≡◌, ℕ, zero, suc, ◌+◌, ◌-◌, ◌/◌, ◌%◌, ◌≤◌, Bool, true, false, List, [], ◌∷◌, ◌++◌, length, take, drop, replicate, map, refl, sym, arith, append_assoc, Option, Some, None, option_to_list, ◌==◌, nat_le, codes, decimal, filter_map, if◌then◌else◌, ℤ}
use Rattle.std.specs.List.{AllByRecursion, list_all, join_with_byte}
use Rattle.std.specs.Fmt.{digit_glyph, digits_onto, digits}
use Rattle.std.proofs.lemmas.Bool.{ltb-true, ltb-false, leb-true, and_parts}
use Rattle.std.proofs.lemmas.List.Elements.{All-from_recursion}
use Rattle.json.specs.Print.{escape_byte, escape}
use Rattle.n2k_wire.specs.Packet.{PacketParts}
use Rattle.n2k_wire.specs.declared.identifier.Id.{Id}
use Rattle.n2k_table.specs.Text.{text_json}
use Rattle.n2k_table.specs.Decimal.{sign_of, after_dot, padded_digits, dotted, dec}
use Rattle.n2k_table.specs.Definition.{DefinitionParts}
use Rattle.n2k_table.specs.Repeat.{RepeatParts}
use Rattle.n2k_table.specs.Shown.{FlagParts, ShownParts, absent, number, name, text, utf8, wide, bytes, flags, digits as digit_bytes}
use Rattle.n2k_table.specs.Table.{TableParts, choice}
use Rattle.n2k_table.specs.Json.{flag_json, value_json, pair_json, member_json, members, object, set_json, repeat_members, message_members, id_json, header_json, line_json, chosen_json, json}
use Rattle.n2k_table.specs.OneLine.{IsOneLine}

-- no byte is below the space
pub record IsClean (bytes : List ℕ) : Type 0 where
  pub each : AllByRecursion (λ b. 32 ≤ b) bytes

all-append : (P : ℕ → Type 0) (xs ys : List ℕ) → AllByRecursion P xs → AllByRecursion P ys → AllByRecursion P (xs ++ ys)
all-append P [] ys a b = b
all-append P (x ∷ xs) ys a b = (a.0, all-append P xs ys a.1 b)

clean-append : (xs ys : List ℕ) → IsClean xs → IsClean ys → IsClean (xs ++ ys)
clean-append xs ys a b = record { each = all-append _ xs ys a.each b.each }

-- from the left
onward : {xs : List ℕ} → IsClean xs → (ys : List ℕ) → IsClean ys → IsClean (xs ++ ys)
onward {xs} a ys b = clean-append xs ys a b

clean-cons : (b : ℕ) (bs : List ℕ) → 32 ≤ b → IsClean bs → IsClean (b ∷ bs)
clean-cons b bs h rest = record { each = (h, rest.each) }

clean-nil : IsClean []
clean-nil = record { each = tt }

-- of a text that is written out
clean-literal : (bs : List ℕ) → list_all (nat_le 32) bs ≡ true → IsClean bs
clean-literal [] e = clean-nil
clean-literal (b ∷ bs) e = let parts = and_parts _ _ e in clean-cons b bs (leb-true 32 b parts.0) (clean-literal bs parts.1)

-- decimals
glyph : (d : ℕ) → 32 ≤ digit_glyph false d
glyph d = grind arith

clean-digits : (k base n : ℕ) (acc : List ℕ) → IsClean acc → IsClean (digits_onto k base false n acc)
clean-digits zero base n acc is = is
clean-digits (suc k) base n acc is = by_test (n / base == 0) (clean-digits k base (n / base) _ (clean-cons _ acc (glyph (n % base)) is))
  where
    by_test : (b : Bool) → IsClean (digits_onto k base false (n / base) (digit_glyph false (n % base) ∷ acc)) → IsClean (if b then digit_glyph false (n % base) ∷ acc else digits_onto k base false (n / base) (digit_glyph false (n % base) ∷ acc))
    by_test b more = grind arith

clean-decimal : (n : ℕ) → IsClean (decimal n)
unfolding digits
clean-decimal n = clean-digits 64 10 n [] clean-nil

clean-take : (n : ℕ) (xs : List ℕ) → IsClean xs → IsClean (take n xs)
clean-take zero xs is = clean-nil
clean-take (suc n) [] is = clean-nil
clean-take (suc n) (x ∷ xs) is = clean-cons x (take n xs) is.each.0 (clean-take n xs (record { each = is.each.1 }))

clean-drop : (n : ℕ) (xs : List ℕ) → IsClean xs → IsClean (drop n xs)
clean-drop zero xs is = is
clean-drop (suc n) [] is = clean-nil
clean-drop (suc n) (x ∷ xs) is = clean-drop n xs (record { each = is.each.1 })

clean-replicate : (n b : ℕ) → 32 ≤ b → IsClean (replicate n b)
clean-replicate zero b h = clean-nil
clean-replicate (suc n) b h = clean-cons b (replicate n b) h (clean-replicate n b h)

clean-sign : (x : ℤ) → IsClean (sign_of x)
clean-sign x = grind arith

clean-after_dot : (ds : List ℕ) → IsClean ds → IsClean (after_dot ds)
clean-after_dot [] is = clean-nil
clean-after_dot (d ∷ ds) is = clean-cons 46 (d ∷ ds) (omega arith) is

clean-dotted : (e : ℕ) (ds : List ℕ) → IsClean ds → IsClean (dotted e ds)
clean-dotted e ds is = clean-append _ _ (clean-take (length ds - e) ds is) (clean-after_dot _ (clean-drop (length ds - e) ds is))

clean-padded : (n e : ℕ) → IsClean (padded_digits n e)
clean-padded n e = clean-append _ _ (clean-replicate (e + 1 - length (decimal n)) 48 (omega arith)) (clean-decimal n)

clean-dec : (x : ℤ) (e : ℕ) → IsClean (dec x e)
unfolding dec
clean-dec x e = clean-append (sign_of x) _ (clean-sign x) (clean-dotted e _ (clean-padded _ e))

clean-escape_byte : (x : ℕ) → IsClean (escape_byte x)
unfolding escape_byte
clean-escape_byte x = grind (arith, ltb-false, ltb-true)

clean-escape : (xs : List ℕ) → IsClean (escape xs)
clean-escape [] = clean-nil
clean-escape (x ∷ xs) = clean-append (escape_byte x) (escape xs) (clean-escape_byte x) (clean-escape xs)

clean-text : (xs : List ℕ) → IsClean (text_json xs)
unfolding text_json
clean-text xs = clean-cons 34 _ (omega arith) (clean-append (escape xs) _ (clean-escape xs) (clean-cons 34 [] (omega arith) clean-nil))

clean-joined : (texts : List (List ℕ)) → AllByRecursion IsClean texts → IsClean (join_with_byte 44 texts)
clean-joined [] is = clean-nil
clean-joined (t ∷ []) is = is.0
clean-joined (t ∷ u ∷ texts) is = clean-append t _ is.0 (clean-cons 44 _ (omega arith) (clean-joined (u ∷ texts) is.1))

clean-array : (first last : ℕ) (texts : List (List ℕ)) → 32 ≤ first → 32 ≤ last → AllByRecursion IsClean texts → IsClean (first ∷ (join_with_byte 44 texts ++ last ∷ []))
clean-array first last texts h i is = grind (arith, clean-append, clean-joined)

clean-flag : (f : FlagParts) → IsClean (flag_json f)
clean-flag f = grind (arith, clean-text, clean-decimal)

clean-flags : (fs : List FlagParts) → AllByRecursion IsClean (map flag_json fs)
clean-flags [] = tt
clean-flags (f ∷ fs) = (clean-flag f, clean-flags fs)

-- the line
clean-value : (empty : Bool) (shown : ShownParts) → AllByRecursion IsClean (option_to_list (value_json empty shown))
clean-value true absent = (clean-literal (codes "null") refl, tt)
clean-value false absent = tt
clean-value empty (number value decimals) = (clean-dec value decimals, tt)
clean-value empty (name n) = (clean-text n, tt)
clean-value empty (text numbers) = (clean-text _, tt)
clean-value empty (utf8 t) = (clean-text _, tt)
clean-value empty (wide t) = (clean-text _, tt)
clean-value empty (bytes payload) = (clean-text _, tt)
clean-value empty (digit_bytes payload) = (clean-text _, tt)
clean-value empty (flags fs) = (clean-array 91 93 (map flag_json fs) (omega arith) (omega arith) (clean-flags fs), tt)

clean-pair : (key : List ℕ) (value : Option (List ℕ)) → AllByRecursion IsClean (option_to_list value) → AllByRecursion IsClean (option_to_list (pair_json key value))
clean-pair key value is = grind (arith, clean-append, clean-text)

clean-members : (empty : Bool) (fields : List (List ℕ × ShownParts)) → AllByRecursion IsClean (filter_map (member_json empty) fields)
clean-members empty [] = tt
clean-members empty (f ∷ fields) = grind (arith, clean-members empty fields, clean-pair f.0 (value_json empty f.1) (clean-value empty f.1))

clean-object : (ms : List (List ℕ)) → AllByRecursion IsClean ms → IsClean (object ms)
clean-object ms is = clean-array 123 125 ms (omega arith) (omega arith) is

-- what repeats
clean-sets : (empty : Bool) (sets : List (List (List ℕ × ShownParts))) → AllByRecursion IsClean (map (set_json empty) sets)
clean-sets empty [] = tt
clean-sets empty (set ∷ sets) = (clean-object (members empty set) (clean-members empty set), clean-sets empty sets)

clean-repeat : (empty : Bool) (r : Option RepeatParts) (payload : List ℕ) → AllByRecursion IsClean (repeat_members empty r payload)
clean-repeat empty r payload = grind (arith, clean-append, clean-text, clean-array, clean-sets)

clean-both : (xs ys : List (List ℕ)) → AllByRecursion IsClean xs → AllByRecursion IsClean ys → AllByRecursion IsClean (xs ++ ys)
clean-both [] ys a b = b
clean-both (x ∷ xs) ys a b = (a.0, clean-both xs ys a.1 b)

clean-message : (empty : Bool) (d : DefinitionParts) (payload : List ℕ) → AllByRecursion IsClean (message_members empty d payload)
clean-message empty d payload = grind (arith, clean-both, clean-members, clean-repeat)

clean-id : (id : Id) → IsClean (id_json id)
unfolding id_json
clean-id id = grind (arith, onward, clean-decimal)

clean-head : (description : List ℕ) (m : PacketParts) → IsClean description → IsClean (header_json description m)
unfolding header_json
clean-head description m is = grind (arith, onward, clean-text, clean-id)

line-one : (description : List ℕ) (ms : List (List ℕ)) (m : PacketParts) → AllByRecursion IsClean ms → IsOneLine (line_json description ms m)
line-one description ms m is = record {
  prefix = (header_json (text_json description) m ++ object ms) ++ 125 ∷ [];
  spelled = sym (append_assoc (header_json (text_json description) m ++ object ms) (125 ∷ []) (10 ∷ []));
  clean = All-from_recursion (λ b. 32 ≤ b) _ (onward (onward (clean-head (text_json description) m (clean-text description)) (object ms) (clean-object ms is)) (125 ∷ []) (clean-cons 125 [] (omega arith) clean-nil)).each;
}

pub json-one : (t : TableParts) (m : PacketParts) (empty : Bool) → IsOneLine (json t m empty)
unfolding json
json-one t m empty = by_choice (choice t m.id.pgn m.payload)
  where
    by_choice : (d : Option DefinitionParts) → IsOneLine (chosen_json d m empty)
    by_choice None = line-one (codes "Unmatched") (members false ((codes "Data", bytes m.payload) ∷ [])) m (clean-members false ((codes "Data", bytes m.payload) ∷ []))
    by_choice (Some d) = line-one d.description (message_members empty d m.payload) m (clean-message empty d m.payload)
