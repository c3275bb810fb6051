-- The text of a line before the members, as the code appends it.
use Rattle.std.proofs.Common.{◌≡◌, ℕ, zero, suc, ◌+◌, ◌-◌, ◌/◌, ◌%◌, ◌<◌, ◌≤◌, Bool, true, ◌&&◌, List, [], ◌∷◌, ◌++◌, IfSome, slice_index_or, take, drop, nat_lt, if◌then◌else◌, refl, sym, ap, ◌∙◌, codes, append_assoc, eq-zero-or-pos, arith, inl, inr, decimal}
use Rattle.std.specs.List.{list_all, find, join_with_byte}
use Rattle.std.proofs.lemmas.Bool.{and_parts}
use Rattle.std.proofs.lemmas.Fmt.{decimal_digit}
use Rattle.itoa.proofs.Decimal.{decimal_two, decimal_pair}
use Rattle.std.specs.Str.{bytes_eq}
use Rattle.std.proofs.lemmas.Slice.Eq.{bytes_eq-Decides}
use Rattle.n2k_wire.specs.Packet.{PacketParts}
use Rattle.n2k_table.specs.declared.json_header.TheConstants.{NUMBERS}
use Rattle.n2k_table.specs.Definition.{DefinitionParts}
use Rattle.n2k_table.specs.Table.{TableParts, is_of, matches, choice}
use Rattle.n2k_table.specs.Text.{text_json, hex_pairs}
use Rattle.n2k_table.specs.Json.{comma, id_json, header_json, line_json, unmatched_json}
use Rattle.n2k_table.specs.Inner.Line.{is_plain, is_usual, sender_json, before_pgn_json, label_json}
use Rattle.n2k_table.proofs.Escapes.{text_json-plain}

-- numbers of up to three digits
one_digit : (n : ℕ) → n < 10 → decimal n ≡ (48 + n % 10) ∷ []
one_digit n small = grind (arith, decimal_digit)

two_digits : (n : ℕ) → 10 ≤ n → n < 100 → decimal n ≡ (48 + n / 10 % 10) ∷ (48 + n % 10) ∷ []
two_digits n large small = grind (arith, decimal_two)

three_digits : (n : ℕ) → 100 ≤ n → n < 1000 → decimal n ≡ (48 + n / 100) ∷ (48 + n / 10 % 10) ∷ (48 + n % 10) ∷ []
three_digits n large small = grind (arith, decimal_pair, decimal_digit)

-- the same, as a check of a table computes it
abbrev few_digits : ℕ → List ℕ
few_digits n =
    if nat_lt n 10 then (48 + n % 10) ∷ []
    else if nat_lt n 100 then (48 + n / 10 % 10) ∷ (48 + n % 10) ∷ []
    else (48 + n / 100) ∷ (48 + n / 10 % 10) ∷ (48 + n % 10) ∷ []

few_digits_are : (n : ℕ) → n < 1000 → few_digits n ≡ decimal n
few_digits_are n small = grind (arith, one_digit, two_digits, three_digits)

-- whether four bytes are the text of a number, filled up, as many as the last of them says
abbrev is_number_text : ℕ → List ℕ → Bool
is_number_text n text = bytes_eq (take (slice_index_or text 3 0 % 4) text) (few_digits n)

abbrev are_number_texts : ℕ → Bool
are_number_texts zero = true
are_number_texts (suc n) = is_number_text n (slice_index_or NUMBERS n []) && are_number_texts n

abbrev IsNumberText : ℕ → List ℕ → Type 0
IsNumberText n text = take (slice_index_or text 3 0 % 4) text ≡ decimal n

number_text_of : (n : ℕ) (text : List ℕ) → n < 1000 → is_number_text n text ≡ true → IsNumberText n text
number_text_of n text small is = grind (arith, bytes_eq-Decides, few_digits_are)

number_text_below : (m n : ℕ) → are_number_texts m ≡ true → n < m → n < 1000 → IsNumberText n (slice_index_or NUMBERS n [])
number_text_below zero n all h small = absurd (omega arith)
number_text_below (suc m) n all h small =
    let parts = and_parts (is_number_text m (slice_index_or NUMBERS m [])) (are_number_texts m) all in
    elim (eq-zero-or-pos (m - n)) [
      | inl z ↦ let e : n ≡ m = omega arith in rw e (number_text_of m (slice_index_or NUMBERS m []) (omega arith) parts.0)
      | inr g ↦ number_text_below m n parts.1 (omega arith) small
    ]

-- the texts of the bytes
pub number_text : (n : ℕ) → n < 256 → IsNumberText n (slice_index_or NUMBERS n [])
number_text n small = number_text_below 256 n refl small (omega arith)

line_lists : (ts st c1 p c2 s c3 d c4 g c5 de c6 ms : List ℕ)
    → ((((ts ++ st) ++ (((((c1 ++ p) ++ c2) ++ s) ++ c3) ++ d)) ++ ((((c4 ++ g) ++ c5) ++ de) ++ (c6 ++ 123 ∷ []))) ++ ms) ++ (125 ∷ 125 ∷ 10 ∷ [])
    ≡ ((((((ts ++ st) ++ (((((((c1 ++ p) ++ c2) ++ s) ++ c3) ++ d) ++ c4) ++ g)) ++ c5) ++ de) ++ c6) ++ ((123 ∷ ms) ++ 125 ∷ [])) ++ (125 ∷ 10 ∷ [])
line_lists ts st c1 p c2 s c3 d c4 g c5 de c6 ms = simp append_assoc

-- the line of a message under a definition of its PGN
pub matched_parts : (description : List ℕ) (ms : List (List ℕ)) (m : PacketParts)
    → ((before_pgn_json m ++ label_json m.id.pgn description) ++ join_with_byte comma ms) ++ codes "}}\n" ≡ line_json description ms m
unfolding before_pgn_json sender_json label_json header_json id_json
matched_parts description ms m =
    line_lists (codes "{\"timestamp\":") (text_json m.stamp) (codes ",\"prio\":") (decimal m.id.prio) (codes ",\"src\":") (decimal m.id.src) (codes ",\"dst\":") (decimal m.id.dst)
    (codes ",\"pgn\":") (decimal m.id.pgn) (codes ",\"description\":") (text_json description) (codes ",\"fields\":") (join_with_byte comma ms)

unmatched_lists : (ts st c1 p c2 s c3 d c4 g c5 de c6 key value : List ℕ)
    → ((((((ts ++ st) ++ (((((c1 ++ p) ++ c2) ++ s) ++ c3) ++ d)) ++ c4) ++ g) ++ (((c5 ++ de) ++ c6) ++ (123 ∷ key))) ++ value) ++ (125 ∷ 125 ∷ 10 ∷ [])
    ≡ ((((((ts ++ st) ++ (((((((c1 ++ p) ++ c2) ++ s) ++ c3) ++ d) ++ c4) ++ g)) ++ c5) ++ de) ++ c6) ++ ((123 ∷ (key ++ value)) ++ 125 ∷ [])) ++ (125 ∷ 10 ∷ [])
unmatched_lists ts st c1 p c2 s c3 d c4 g c5 de c6 key value = simp append_assoc

-- the line of a message that no definition matches
pub unmatched_parts : (m : PacketParts)
    → ((((before_pgn_json m ++ codes ",\"pgn\":") ++ decimal m.id.pgn) ++ codes ",\"description\":\"Unmatched\",\"fields\":{\"Data\":") ++ text_json (hex_pairs m.payload)) ++ codes "}}\n" ≡ unmatched_json m
unfolding before_pgn_json sender_json header_json id_json
unmatched_parts m =
    let name : text_json (codes "Unmatched") ≡ codes "\"Unmatched\"" = text_json-plain (codes "Unmatched") refl in
    let key : text_json (codes "Data") ≡ codes "\"Data\"" = text_json-plain (codes "Data") refl in
    rw (name, key) (unmatched_lists (codes "{\"timestamp\":") (text_json m.stamp) (codes ",\"prio\":") (decimal m.id.prio) (codes ",\"src\":") (decimal m.id.src) (codes ",\"dst\":") (decimal m.id.dst)
    (codes ",\"pgn\":") (decimal m.id.pgn) (codes ",\"description\":") (codes "\"Unmatched\"") (codes ",\"fields\":") (codes "\"Data\":") (text_json (hex_pairs m.payload)))

found_number : (pgn : ℕ) (payload : List ℕ) (ds : List DefinitionParts)
    → IfSome (find (λ (d : DefinitionParts). is_of pgn d && matches payload d) ds) (λ (d : DefinitionParts). d.pgn ≡ pgn)
found_number pgn payload [] = tt
found_number pgn payload (d ∷ ds) = grind (arith, found_number pgn payload ds)

-- a definition that is chosen for a message describes its PGN
pub choice_number : (t : TableParts) (pgn : ℕ) (payload : List ℕ) → IfSome (choice t pgn payload) (λ (d : DefinitionParts). d.pgn ≡ pgn)
choice_number t pgn payload = found_number pgn payload t.definitions

-- a stamp that needs no escape, between its quotes
pub plain_time : (line stamp l1 l2 l3 : List ℕ) → list_all is_plain stamp ≡ true → l1 ≡ line ++ codes "{\"timestamp\":\"" → l2 ≡ l1 ++ stamp → l3 ≡ l2 ++ 34 ∷ []
    → l3 ≡ line ++ (codes "{\"timestamp\":" ++ text_json stamp)
plain_time line stamp l1 l2 l3 plain p1 p2 p3 = rw (p3, p2, p1, text_json-plain stamp plain) (simp append_assoc)

pub two_parts : (line a b l1 l2 : List ℕ) → l1 ≡ line ++ a → l2 ≡ l1 ++ b → l2 ≡ line ++ (a ++ b)
two_parts line a b l1 l2 p1 p2 = rw (p2, p1) (append_assoc line a b)

-- what holds of the first k and more bytes, and of those after the first k, holds of all
all_overlap : (p : ℕ → Bool) (k n : ℕ) (xs : List ℕ) → k ≤ n → list_all p (take n xs) ≡ true → list_all p (drop k xs) ≡ true → list_all p xs ≡ true
all_overlap p zero n xs le first last = last
all_overlap p (suc k) n [] le first last = refl
all_overlap p (suc k) zero (x ∷ xs) le first last = absurd (omega arith)
all_overlap p (suc k) (suc n) (x ∷ xs) le first last = grind (arith, all_overlap p k n xs (omega arith) (and_parts (p x) (list_all p (take n xs)) first).1 last)

all_usual_plain : (xs : List ℕ) → list_all is_usual xs ≡ true → list_all is_plain xs ≡ true
all_usual_plain [] all = refl
all_usual_plain (x ∷ xs) all = grind (arith, all_usual_plain xs)

-- a stamp of usual bytes needs no escape
pub usual_stamp : (stamp first last : List ℕ) (k : ℕ) → k ≤ 16 → first ≡ take 16 stamp → last ≡ drop k stamp
    → (list_all is_usual first && list_all is_usual last) ≡ true → list_all is_plain stamp ≡ true
usual_stamp stamp first last k few is_first is_last all =
    let both = and_parts (list_all is_usual first) (list_all is_usual last) all in
    all_usual_plain stamp (all_overlap is_usual k 16 stamp few
    (ap (list_all is_usual) (sym is_first) ∙ both.0) (ap (list_all is_usual) (sym is_last) ∙ both.1))
