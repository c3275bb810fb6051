-- The characters of strings, and units of UTF-16.
use Rattle.std.proofs.Common.{◌≡◌, ℕ, zero, suc, ◌+◌, ◌*◌, ◌/◌, ◌%◌, ◌≤◌, true, false, List, [], ◌∷◌, ◌++◌, length, get_or, take, refl, sym, ap, ◌∙◌, arith, inl, inr, IsUtf8, ◌==◌, ◌&&◌, unwrap_or, flat_map}
use Rattle.std.specs.Char.Utf16.{is_high_surrogate, is_low_surrogate, surrogate_pair_char, lone_unit_char, utf16_chars, utf16_lossy_chars}
use Rattle.std.specs.Str.{is_utf8}
use Rattle.std.proofs.lemmas.Bool.{cases_Bool, false≢true}
use Rattle.std.proofs.lemmas.Str.{is_utf8-from_IsUtf8, IsUtf8-from_is_utf8}
use Rattle.n2k_table.specs.Shown.{utf8, text, shown_characters, trimmed_of, trimmed_units}
use Rattle.n2k_table.specs.Strings.{units, is_filling_unit, wide_text}
use Rattle.n2k_table.specs.Text.{character}
use Rattle.n2k_table.proofs.Trims.{trimmed_more, trimmed_done}

-- characters that are UTF-8
pub shows_utf8 : (cs : List ℕ) → false ≡ (length cs == 0) → IsUtf8 cs → utf8 cs ≡ shown_characters cs
shows_utf8 [] some is = absurd (false≢true some)
shows_utf8 (b ∷ bs) some is = rw (is_utf8-from_IsUtf8 (b ∷ bs) is) refl

-- and characters that are not
pub shows_bytes : (cs : List ℕ) → false ≡ (length cs == 0) → (IsUtf8 cs → ⊥) → text cs ≡ shown_characters cs
shows_bytes [] some other = absurd (false≢true some)
shows_bytes (b ∷ bs) some other =
    elim (cases_Bool (is_utf8 (b ∷ bs))) [
      | inl is ↦ absurd (other (IsUtf8-from_is_utf8 (b ∷ bs) is))
      | inr isnt ↦ rw isnt refl
    ]

-- so many bytes as units have
abbrev twice : ℕ → ℕ
twice zero = zero
twice (suc k) = suc (suc (twice k))

twice_is : (k : ℕ) → twice k ≡ 2 * k
twice_is zero = refl
twice_is (suc k) = let more = twice_is k in omega (arith, more)

twice_half : (n : ℕ) → n % 2 ≡ 0 → twice (n / 2) ≡ n
twice_half n even = twice_is (n / 2) ∙ omega (arith, even)

-- an odd last byte is in no unit
whole : (k : ℕ) (bs : List ℕ) → twice k ≤ length bs → length bs ≤ suc (twice k) → units (take (twice k) bs) ≡ units bs
whole zero [] enough few = refl
whole zero (b ∷ []) enough few = refl
whole zero (b ∷ c ∷ bs) enough few = absurd (omega (arith, few))
whole (suc k) [] enough few = absurd (omega (arith, enough))
whole (suc k) (b ∷ []) enough few = absurd (omega (arith, enough))
whole (suc k) (b ∷ c ∷ bs) enough few = ap (λ (us : List ℕ). (b + 256 * c) ∷ us) (whole k bs (omega (arith, enough)) (omega (arith, few)))

pub units_whole : (bs : List ℕ) → units (take (length bs / 2 * 2) bs) ≡ units bs
units_whole bs =
    let n = length bs / 2 * 2 in
    let is : twice (n / 2) ≡ n = twice_half n (omega arith) in
    ap (λ m. units (take m bs)) (sym is) ∙ whole (n / 2) bs (omega (arith, is)) (omega (arith, is))

-- the last unit
last : (k : ℕ) (bs : List ℕ) → suc (suc (twice k)) ≤ length bs
    → units (take (suc (suc (twice k))) bs) ≡ units (take (twice k) bs) ++ (get_or bs (twice k) 0 + 256 * get_or bs (suc (twice k)) 0) ∷ []
last zero [] enough = absurd (omega (arith, enough))
last zero (b ∷ []) enough = absurd (omega (arith, enough))
last zero (b ∷ c ∷ bs) enough = refl
last (suc k) [] enough = absurd (omega (arith, enough))
last (suc k) (b ∷ []) enough = absurd (omega (arith, enough))
last (suc k) (b ∷ c ∷ bs) enough = ap (λ (us : List ℕ). (b + 256 * c) ∷ us) (last k bs (omega (arith, enough)))

count : (k : ℕ) (bs : List ℕ) → twice k ≤ length bs → length (units (take (twice k) bs)) ≡ k
count zero bs enough = refl
count (suc k) [] enough = absurd (omega (arith, enough))
count (suc k) (b ∷ []) enough = absurd (omega (arith, enough))
count (suc k) (b ∷ c ∷ bs) enough = ap suc (count k bs (omega (arith, enough)))

last_unit : (n : ℕ) (bs : List ℕ) → n % 2 ≡ 0 → n + 2 ≤ length bs → units (take (n + 2) bs) ≡ units (take n bs) ++ (get_or bs n 0 + 256 * get_or bs (n + 1) 0) ∷ []
last_unit n bs even enough = grind (arith, twice_half n even, last (n / 2) bs (omega (arith, (twice_half n even), enough)))

-- a last unit that fills up is cut
pub unit_more : (n : ℕ) (bs : List ℕ) → n % 2 ≡ 0 → n + 2 ≤ length bs → is_filling_unit (get_or bs n 0 + 256 * get_or bs (n + 1) 0) ≡ true
    → trimmed_of is_filling_unit (units (take (n + 2) bs)) ≡ trimmed_of is_filling_unit (units (take n bs))
unit_more n bs even enough fills = grind (arith, last_unit, trimmed_more)

-- and with none left, or at one that does not, all that is left is kept
pub units_done : (bs : List ℕ) → [] ≡ trimmed_of is_filling_unit (units bs) → [] ≡ trimmed_units bs
units_done bs none = ap (λ (us : List ℕ). take (2 * length us) bs) none

pub unit_done : (n : ℕ) (bs : List ℕ) → n % 2 ≡ 0 → n + 2 ≤ length bs → is_filling_unit (get_or bs n 0 + 256 * get_or bs (n + 1) 0) ≡ false
    → trimmed_of is_filling_unit (units (take (n + 2) bs)) ≡ trimmed_of is_filling_unit (units bs) → take (n + 2) bs ≡ trimmed_units bs
unit_done n bs even enough keeps so_far = grind (arith, last_unit n bs even enough, trimmed_done is_filling_unit (units (take n bs)) (get_or bs n 0 + 256 * get_or bs (n + 1) 0) keeps, count ((n + 2) / 2) bs (omega (arith, (twice_half (n + 2) (omega (arith, even))), enough)), twice_is ((n + 2) / 2))

-- two units that are a pair
pub paired : (u v : ℕ) (us : List ℕ) → (is_high_surrogate u && is_low_surrogate v) ≡ true → utf16_lossy_chars (u ∷ v ∷ us) ≡ surrogate_pair_char u v ∷ utf16_lossy_chars us
unfolding utf16_chars
paired u v us is = rw is refl

-- a unit before one with which it does not pair, and the last unit
pub alone : (u v : ℕ) (us : List ℕ) → (is_high_surrogate u && is_low_surrogate v) ≡ false → utf16_lossy_chars (u ∷ v ∷ us) ≡ unwrap_or (lone_unit_char u) 0xFFFD ∷ utf16_lossy_chars (v ∷ us)
unfolding utf16_chars
alone u v us isnt = rw isnt refl

pub at_last : (u : ℕ) → utf16_lossy_chars (u ∷ []) ≡ unwrap_or (lone_unit_char u) 0xFFFD ∷ utf16_lossy_chars []
unfolding utf16_chars
at_last u = refl

-- no unit spells no text
pub no_units : (bs : List ℕ) → units bs ≡ [] → wide_text bs ≡ []
unfolding utf16_chars
no_units bs none = ap (λ us. flat_map character (utf16_lossy_chars us)) none
