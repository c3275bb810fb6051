-- Pairs of hexadecimal digits that spell bytes are those that `decode` prints of them.
use Rattle.std.proofs.Common.{◌≡◌, ℕ, zero, suc, ◌+◌, ◌*◌, ◌/◌, ◌%◌, ◌<◌, ◌==◌, nat_lt, Bool, true, ◌&&◌, List, [], ◌∷◌, Option, Some, None, if◌then◌else◌, refl, ap, ◌∙◌, arith, inl, inr}
use Rattle.std.specs.List.{slice_index}
use Rattle.std.specs.Str.{bytes_eq}
use Rattle.std.proofs.lemmas.Bool.{cases_lt}
use Rattle.std.proofs.lemmas.Slice.Eq.{bytes_eq-Decides}
use Rattle.n2k_table.specs.Text.{hex_digits, hex_pair, space}
use Rattle.n2k_encode.specs.Says.{after, has_pairs, has_pieces, later_pair}
use Rattle.n2k_encode.specs.Steps.{is_some_with, ◌>>=◌}
use Rattle.n2k_encode.specs.Texts.{byte_before, hex_byte, hex_bytes, hex_digit, later_pairs}

-- the digit of a value below 16
unfoldable pub spelled : ℕ → ℕ
spelled a = if nat_lt a 10 then 48 + a else 55 + a

-- two functions are the same below a number
all_same : (ℕ → ℕ) → (ℕ → ℕ) → ℕ → Bool
all_same f g zero = true
all_same f g (suc n) = all_same f g n && (f n == g n)

same_below : (f g : ℕ → ℕ) (n k : ℕ) → all_same f g n ≡ true → k < n → f k ≡ g k
unfolding all_same
same_below f g zero k all below = absurd (omega (arith, below))
same_below f g (suc n) k all below = elim (cases_lt k n) [
  | inl earlier ↦ same_below f g n k (grind (arith, all)) earlier
  | inr last ↦
      let is : k ≡ n = omega (arith, below, last) in
      let here : f n ≡ g n = grind (arith, all) in
      rw is here
]

pub spelled_is : (a : ℕ) → a < 16 → slice_index hex_digits a ≡ spelled a
unfolding all_same spelled
spelled_is a few = same_below (λ n. slice_index hex_digits n) spelled 16 a refl few

digit_is : (b a : ℕ) → hex_digit b ≡ Some a → (a < 16) × (spelled a ≡ b)
unfolding spelled
digit_is b a e = (grind (arith, e), grind (arith, e))

pair_of : (h l b : ℕ) (x y : Option ℕ) → hex_digit h ≡ x → hex_digit l ≡ y → (do
  a ← x
  c ← y
  Some (16 * a + c)) ≡ Some b → hex_pair b ≡ h ∷ l ∷ []
pair_of h l b None y hi lo e = absurd cc
pair_of h l b (Some a) None hi lo e = absurd cc
pair_of h l b (Some a) (Some c) hi lo e =
    let high = digit_is h a hi in
    let low = digit_is l c lo in
    let is : 16 * a + c ≡ b = grind (arith, e) in
    let first : b / 16 ≡ a = omega (arith, is, low.0) in
    let second : b % 16 ≡ c = omega (arith, is, low.0) in
    let front : slice_index hex_digits (b / 16) ≡ h = rw first (spelled_is a high.0 ∙ high.1) in
    let back : slice_index hex_digits (b % 16) ≡ l = rw second (spelled_is c low.0 ∙ low.1) in
    cc

pair_is : (h l b : ℕ) → hex_byte h l ≡ Some b → hex_pair b ≡ h ∷ l ∷ []
pair_is h l b e = pair_of h l b (hex_digit h) (hex_digit l) refl refl e

-- the first byte and the others
record Parts (o : Option ℕ) (m : Option (List ℕ)) (bs : List ℕ) : Type 0 where
  byte : ℕ
  others : List ℕ
  byte_is : o ≡ Some byte
  others_are : m ≡ Some others
  all : bs ≡ byte ∷ others

parts : (o : Option ℕ) (m : Option (List ℕ)) (bs : List ℕ) → byte_before o m ≡ Some bs → Parts o m bs
parts None m bs e = absurd cc
parts (Some b) None bs e = absurd cc
parts (Some b) (Some more) bs e = record { byte = b; others = more; byte_is = refl; others_are = refl; all = grind (arith, e) }

same_bytes : (bs : List ℕ) → bytes_eq bs bs ≡ true
same_bytes bs = (bytes_eq-Decides bs bs).1 refl

after_pair : (a b : ℕ) (front rest : List ℕ) → front ≡ a ∷ b ∷ [] → after front (a ∷ b ∷ rest) ≡ Some rest
after_pair a b front rest e = rw (e, same_bytes (a ∷ b ∷ [])) refl

after_space : (s a b : ℕ) (front rest : List ℕ) → s ≡ space → front ≡ a ∷ b ∷ [] → after (space ∷ front) (s ∷ a ∷ b ∷ rest) ≡ Some rest
after_space s a b front rest is e = rw (is, e, same_bytes (space ∷ a ∷ b ∷ [])) refl

later_step : (s h l b : ℕ) (rest bs others : List ℕ) → s ≡ space → hex_pair b ≡ h ∷ l ∷ [] → bs ≡ b ∷ others → has_pieces later_pair others rest ≡ true → has_pieces later_pair bs (s ∷ h ∷ l ∷ rest) ≡ true
later_step s h l b rest bs others between pair all more = rw all (ap (is_some_with (has_pieces later_pair others)) (after_space s h l (hex_pair b) rest between pair) ∙ more)

later_back : (text bs : List ℕ) → later_pairs text ≡ Some bs → has_pieces later_pair bs text ≡ true
later_back [] [] e = refl
later_back [] (b ∷ bs) e = absurd cc
later_back (s ∷ []) bs e = grind (arith, e)
later_back (s ∷ h ∷ []) bs e = grind (arith, e)
later_back (s ∷ h ∷ l ∷ rest) bs e =
    let between : s ≡ space = grind (arith, e) in
    let made : byte_before (hex_byte h l) (later_pairs rest) ≡ Some bs = grind (arith, e) in
    let p = parts (hex_byte h l) (later_pairs rest) bs made in
    later_step s h l p.byte rest bs p.others between (pair_is h l p.byte p.byte_is) p.all (later_back rest p.others p.others_are)

first_step : (h l b : ℕ) (rest bs others : List ℕ) → hex_pair b ≡ h ∷ l ∷ [] → bs ≡ b ∷ others → has_pieces later_pair others rest ≡ true → has_pairs bs (h ∷ l ∷ rest) ≡ true
first_step h l b rest bs others pair all more = rw all (ap (is_some_with (has_pieces later_pair others)) (after_pair h l (hex_pair b) rest pair) ∙ more)

pub pairs_back : (text bs : List ℕ) → hex_bytes text ≡ Some bs → has_pairs bs text ≡ true
pairs_back [] [] e = refl
pairs_back [] (b ∷ bs) e = absurd cc
pairs_back (h ∷ []) bs e = absurd cc
pairs_back (h ∷ l ∷ rest) bs e =
    let p = parts (hex_byte h l) (later_pairs rest) bs e in
    first_step h l p.byte rest bs p.others (pair_is h l p.byte p.byte_is) p.all (later_back rest p.others p.others_are)
