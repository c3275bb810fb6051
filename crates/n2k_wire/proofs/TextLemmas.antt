-- Numbers of up to three digits as pieces of a plain line.
use Rattle.std.proofs.Common.{◌≡◌, ℕ, zero, suc, ◌+◌, ◌/◌, ◌%◌, ◌<◌, ◌≤◌, List, [], ◌∷◌, drop, get_or, length, ap, ◌∙◌, arith}
use Rattle.std.proofs.Math.ListN.{drop_of_length-le}
use Rattle.std.proofs.Math.Seq.{drop-cons}
use Rattle.std.proofs.lemmas.Fmt.{decimal_digit}
use Rattle.itoa.proofs.Decimal.{decimal_two, decimal_pair}
use Rattle.n2k_wire.specs.Texts.{number_column}

pub column_of_one : (n : ℕ) → n < 10 → number_column n ≡ 44 ∷ (48 + n % 10) ∷ []
column_of_one n small = grind (arith, decimal_digit)

pub column_of_two : (n : ℕ) → 10 ≤ n → n < 100 → number_column n ≡ 44 ∷ (48 + n / 10 % 10) ∷ (48 + n % 10) ∷ []
column_of_two n large small = grind (arith, decimal_two)

pub column_of_three : (n : ℕ) → 100 ≤ n → n < 1000 → number_column n ≡ 44 ∷ (48 + n / 100) ∷ (48 + n / 10 % 10) ∷ (48 + n % 10) ∷ []
column_of_three n large small = grind (arith, decimal_pair, decimal_digit)

-- the bytes of a text from a place on, one by one
unfoldable pub listed : ℕ → ℕ → List ℕ → List ℕ
listed zero i text = []
listed (suc n) i text = get_or text i 0 ∷ listed n (suc i) text

pub listed_all : (n i : ℕ) (text : List ℕ) → length text ≡ i + n → drop i text ≡ listed n i text
unfolding listed
listed_all zero i text long = drop_of_length-le text {i = i} (omega arith)
listed_all (suc n) i text long = drop-cons text i 0 (omega arith) ∙ ap (λ (t : List ℕ). get_or text i 0 ∷ t) (listed_all n (suc i) text (omega arith))
