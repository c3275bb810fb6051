-- How JSON writes a byte of a text.
use Rattle.std.proofs.Common.{◌≡◌, ℕ, suc, ◌+◌, ◌/◌, ◌%◌, ◌<◌, ◌≤◌, Bool, true, false, ◌&&◌, eqb, List, [], ◌∷◌, ◌++◌, length, get_or, drop, refl, sym, ap, ◌∙◌, arith}
use lib.Utf8.{encode}
use Rattle.std.specs.List.{list_all, flat_map}
use Rattle.std.proofs.lemmas.Bool.{and_parts}
use Rattle.std.proofs.lemmas.List.{drop_more}
use Rattle.std.proofs.Math.Bool.{and-true}
use Rattle.std.proofs.Math.ListN.{drop_of_length-le}
use Rattle.std.proofs.lemmas.Grind.{flat_map-append}
use Rattle.json.specs.Print.{escape_byte}
use Rattle.n2k_table.specs.Text.{text_json, character, hex_digits, hex_pair, hex_pairs, two_digits}
use Rattle.n2k_table.specs.Inner.Line.{is_plain, is_plain_character}

is_not : (b : ℕ) → is_plain b ≡ true → (32 ≤ b) × (eqb b 34 ≡ false) × (eqb b 92 ≡ false)
is_not b h = grind arith

-- a plain byte is written as it is
pub escape_byte-plain : (b : ℕ) → is_plain b ≡ true → escape_byte b ≡ b ∷ []
unfolding escape_byte
escape_byte-plain b h = grind (arith, is_not)

-- and so does a text of such bytes
pub escape-plain : (text : List ℕ) → list_all is_plain text ≡ true → flat_map escape_byte text ≡ text
escape-plain [] h = refl
escape-plain (b ∷ bs) h = grind (arith, escape-plain bs (and_parts (is_plain b) (list_all is_plain bs) h).1, escape_byte-plain)

-- a plain byte of ASCII is a character that is written as it is
escape_character-plain : (b : ℕ) → is_plain_character b ≡ true → flat_map escape_byte (character b) ≡ b ∷ []
unfolding encode
escape_character-plain b h = grind (arith, escape_byte-plain)

pub escape-characters : (numbers : List ℕ) → list_all is_plain_character numbers ≡ true → flat_map escape_byte (flat_map character numbers) ≡ numbers
escape-characters [] h = refl
escape-characters (b ∷ bs) h = grind (arith, escape-characters bs (and_parts (is_plain_character b) (list_all is_plain_character bs) h).1, flat_map-append, escape_character-plain)

-- a character above ASCII and below 256 has two bytes
pub escape-character : (b : ℕ) → 128 ≤ b → b < 256 → flat_map escape_byte (character b) ≡ (192 + b / 64) ∷ (128 + b % 64) ∷ []
unfolding encode
escape-character b low high = grind (arith, escape_byte-plain)

-- the pairs after the first, each after a space
abbrev pub later_pairs : List ℕ → List ℕ
later_pairs bytes = flat_map (λ b. 32 ∷ hex_pair b) bytes

pub hex_pairs-first : (b : ℕ) (bs : List ℕ) → hex_pairs (b ∷ bs) ≡ hex_pair b ++ later_pairs bs
hex_pairs-first b [] = refl
hex_pairs-first b (c ∷ cs) = ap (λ (t : List ℕ). hex_pair b ++ (32 ∷ t)) (hex_pairs-first c cs)

-- digits are plain
digit_plain : (d : ℕ) → d < 16 → is_plain (get_or hex_digits d 0) ≡ true
digit_plain d small = grind arith

pair_plain : (b : ℕ) (rest : List ℕ) → b < 256 → list_all is_plain (hex_pair b ++ rest) ≡ list_all is_plain rest
pair_plain b rest small = rw (digit_plain (b / 16) (omega arith), digit_plain (b % 16) (omega arith)) refl

later_plain : (bs : List ℕ) → ((i : ℕ) → get_or bs i 0 < 256) → list_all is_plain (later_pairs bs) ≡ true
later_plain [] small = refl
later_plain (b ∷ bs) small = pair_plain b (later_pairs bs) (small 0) ∙ later_plain bs (λ i. small (suc i))

pairs_plain : (bs : List ℕ) → ((i : ℕ) → get_or bs i 0 < 256) → list_all is_plain (hex_pairs bs) ≡ true
pairs_plain [] small = refl
pairs_plain (b ∷ bs) small = grind (arith, hex_pairs-first b bs, pair_plain b (later_pairs bs) (small 0), later_plain bs (λ i. small (suc i)))

pub text_json-plain : (text : List ℕ) → list_all is_plain text ≡ true → text_json text ≡ 34 ∷ (text ++ 34 ∷ [])
unfolding text_json
text_json-plain text plain = ap (λ (t : List ℕ). 34 ∷ (t ++ 34 ∷ [])) (escape-plain text plain)

pub text_json-hex_pairs : (bs : List ℕ) → ((i : ℕ) → get_or bs i 0 < 256) → text_json (hex_pairs bs) ≡ 34 ∷ (hex_pairs bs ++ 34 ∷ [])
text_json-hex_pairs bs small = text_json-plain (hex_pairs bs) (pairs_plain bs small)

-- whether all of some bytes pass, with those so far
pub all_more : (p : ℕ → Bool) (bytes : List ℕ) (i : ℕ) (so_far : Bool) → i < length bytes → (so_far && list_all p (drop i bytes)) ≡ list_all p bytes
    → ((so_far && p (get_or bytes i 0)) && list_all p (drop (i + 1) bytes)) ≡ list_all p bytes
all_more p bytes i so_far within before = grind (arith, drop_more)

pub all_done : (p : ℕ → Bool) (bytes : List ℕ) (i : ℕ) (so_far : Bool) → length bytes ≤ i → (so_far && list_all p (drop i bytes)) ≡ list_all p bytes → so_far ≡ list_all p bytes
all_done p bytes i so_far past before = sym (and-true so_far) ∙ (rw (drop_of_length-le bytes {i = i} past) at before)

-- two digits of a byte are plain too
figure_plain : (d : ℕ) → d < 26 → is_plain (48 + d) ≡ true
figure_plain d small = grind arith

figures_plain : (bs : List ℕ) → ((i : ℕ) → get_or bs i 0 < 256) → list_all is_plain (flat_map two_digits bs) ≡ true
figures_plain [] small = refl
figures_plain (b ∷ bs) small = grind (arith, figures_plain bs (λ i. small (suc i)), figure_plain (b / 10) (omega (arith, (small 0))))

pub text_json-two_digits : (bs : List ℕ) → ((i : ℕ) → get_or bs i 0 < 256) → text_json (flat_map two_digits bs) ≡ 34 ∷ (flat_map two_digits bs ++ 34 ∷ [])
text_json-two_digits bs small = text_json-plain (flat_map two_digits bs) (figures_plain bs small)
