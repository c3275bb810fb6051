-- An identifier and its parts, both ways.
use Rattle.std.proofs.Common.{◌≡◌, ℕ, ◌+◌, ◌*◌, ◌/◌, ◌%◌, ◌^◌, ◌<◌, true, false, Some, refl, sym, ◌∙◌, ltb, arith, inl, inr, ◌==◌, if◌then◌else◌}
use Rattle.std.proofs.lemmas.Bool.{cases_Bool, eqb-true}
use Rattle.n2k_wire.specs.declared.identifier.Id.{Id}
use Rattle.n2k_wire.specs.Identifier.{split, join, is_joinable, is_addressed, low_byte, specific_of, source, pdu_specific, pdu_format, data_page, priority, everyone}

-- a sum of priority, page and format, specific byte and source
abbrev sum_of : ℕ → ℕ → ℕ → ℕ → ℕ
sum_of p g s a = p * 2 ^ 26 + g * 2 ^ 16 + s * 2 ^ 8 + a

-- the parts of a sum of priority, page and format, specific byte and source
parts : (p g s a : ℕ) → p < 8 → g < 1024 → s < 256 → a < 256
    → (priority (sum_of p g s a) ≡ p) × (data_page (sum_of p g s a) ≡ g / 2 ^ 8) × (pdu_format (sum_of p g s a) ≡ g % 2 ^ 8) × (pdu_specific (sum_of p g s a) ≡ s) × (source (sum_of p g s a) ≡ a)
parts p g s a p_fits g_fits s_fits a_fits = (omega arith, omega arith, omega arith, omega arith, omega arith)

same_id : (a b : Id) → a.prio ≡ b.prio → a.pgn ≡ b.pgn → a.src ≡ b.src → a.dst ≡ b.dst → a ≡ b
same_id a b prio pgn src dst = grind arith

-- the parts of an identifier for one address, and of an identifier for all
split_addressed : (n : ℕ) → ltb (pdu_format n) 240 ≡ true
    → (id : Id) → priority n ≡ id.prio → data_page n * 2 ^ 16 + pdu_format n * 2 ^ 8 ≡ id.pgn → source n ≡ id.src → pdu_specific n ≡ id.dst → split n ≡ id
unfolding split
split_addressed n test id prio pgn src dst = rw test (same_id _ id prio pgn src dst)

split_broadcast : (n : ℕ) → ltb (pdu_format n) 240 ≡ false
    → (id : Id) → priority n ≡ id.prio → data_page n * 2 ^ 16 + pdu_format n * 2 ^ 8 + pdu_specific n ≡ id.pgn → source n ≡ id.src → everyone ≡ id.dst → split n ≡ id
unfolding split
split_broadcast n test id prio pgn src dst = rw test (same_id _ id prio pgn src dst)

-- the number of an identifier with these parts
abbrev number_of : Id → ℕ
number_of id = sum_of id.prio (id.pgn / 2 ^ 8) (specific_of id) id.src

join_some : (id : Id) → is_joinable id ≡ true → join id ≡ Some (number_of id)
unfolding join
join_some id holds = rw holds refl

-- the conditions under which an identifier has these parts
abbrev Joinable : Id → Type 0
Joinable id = (id.prio < 8) × (id.pgn < 2 ^ 18) × ((if is_addressed id.pgn then low_byte id.pgn == 0 else id.dst == everyone) ≡ true)

joinable : (id : Id) → is_joinable id ≡ true → Joinable id
unfolding is_joinable
joinable id holds = grind arith

joined_as : (id : Id) (n : ℕ) → join id ≡ Some n → Joinable id × (number_of id ≡ n)
unfolding join
joined_as id n e =
    elim (cases_Bool (is_joinable id)) [
      | inl holds ↦ (joinable id holds, let same = sym (join_some id holds) ∙ e in cc)
      | inr fails ↦ absurd (let none = rw fails at e in cc)
    ]

specific_small : (id : Id) → id.dst < 2 ^ 8 → specific_of id < 256
specific_small id dst = elim (cases_Bool (is_addressed id.pgn)) [ inl one ↦ rw one dst | inr all ↦ rw all (omega arith) ]

split_number : (id : Id) → id.src < 2 ^ 8 → id.dst < 2 ^ 8 → Joinable id → split (number_of id) ≡ id
split_number id src dst facts =
    let is = parts id.prio (id.pgn / 2 ^ 8) (specific_of id) id.src facts.0 (omega (arith, facts.1)) (specific_small id dst) src in
    elim (cases_Bool (is_addressed id.pgn)) [
      | inl one ↦
          let low : low_byte id.pgn ≡ 0 = eqb-true _ _ (rw one at facts.2) in
          let specific : specific_of id ≡ id.dst = rw one refl in
          split_addressed (number_of id) (rw is.2 one) id is.0 (rw (is.2, is.1) (omega arith)) is.4 (is.3 ∙ specific)
      | inr all ↦
          let everyone_is : id.dst ≡ everyone = eqb-true _ _ (rw all at facts.2) in
          let low : pdu_specific (number_of id) ≡ low_byte id.pgn = is.3 ∙ (rw all refl) in
          split_broadcast (number_of id) (rw is.2 all) id is.0 (rw (is.2, is.1, low) (omega arith)) is.4 (sym everyone_is)
    ]

pub join_split : (id : Id) (n : ℕ) → id.src < 2 ^ 8 → id.dst < 2 ^ 8 → join id ≡ Some n → split n ≡ id
join_split id n src dst e = let is = joined_as id n e in rw (← is.1) (split_number id src dst is.0)

-- an identifier has 29 bits
pub join_bits : (id : Id) (n : ℕ) → id.src < 2 ^ 8 → id.dst < 2 ^ 8 → join id ≡ Some n → n < 2 ^ 29
join_bits id n src dst e = grind (arith, joined_as)

joins : (id : Id) (n : ℕ) → id.prio < 8 → id.pgn < 2 ^ 18 → (if is_addressed id.pgn then low_byte id.pgn == 0 else id.dst == everyone) ≡ true → number_of id ≡ n → join id ≡ Some n
unfolding is_joinable
joins id n prio pgn rest number = grind (arith, join_some)

module _ (n : ℕ) (bits : n < 2 ^ 29) where
  one_address : Id
  one_address = record { prio = priority n; pgn = data_page n * 2 ^ 16 + pdu_format n * 2 ^ 8; src = source n; dst = pdu_specific n }

  for_all : Id
  for_all = record { prio = priority n; pgn = data_page n * 2 ^ 16 + pdu_format n * 2 ^ 8 + pdu_specific n; src = source n; dst = everyone }

  joins_one : ltb (pdu_format n) 240 ≡ true → join one_address ≡ Some n
  unfolding one_address
  joins_one test = grind (arith, joins)

  joins_all : ltb (pdu_format n) 240 ≡ false → join for_all ≡ Some n
  unfolding for_all
  joins_all test = grind (arith, joins)

  pub split_join : join (split n) ≡ Some n
  unfolding split one_address for_all
  split_join = grind (arith, joins_one, joins_all)
