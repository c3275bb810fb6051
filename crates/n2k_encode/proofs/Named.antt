-- A value of a lookup that a field shows is accepted.
use Rattle.std.proofs.Common.{lit<, ◌≡◌, ℕ, ◌*◌, ◌^◌, ◌<◌, ◌≤◌, ◌==◌, Bool, true, false, ◌&&◌, nat_eq, nat_lt, nat_le, List, [], ◌∷◌, Option, Some, None, is_some, is_none, option_map, refl, ap, sym, ◌∙◌, subst, arith, inl, inr, pos, ◌*ℤ◌}
use Rattle.std.specs.Cmp.Lexicographic.{same_text}
use Rattle.std.specs.List.{find}
use Rattle.std.specs.Str.{bytes_eq}
use Rattle.std.proofs.lemmas.Bool.{cases_Bool, eqb-true, eq-eqb, false≢true}
use Rattle.std.proofs.lemmas.Slice.Eq.{bytes_eq-Decides}
use native.Mathlib.Nat.{pow-le-pow_right}
use Rattle.json.specs.Json.{number, string}
use Rattle.n2k_table.specs.Bits.{greatest}
use Rattle.n2k_table.specs.Lookup.{name_of_value}
use Rattle.n2k_table.specs.Shown.{shown_name}
use Rattle.n2k_encode.specs.Numeral.{is_negative, multiples}
use Rattle.n2k_encode.specs.Request.{whole_number}
use Rattle.n2k_encode.specs.Says.{has_sign, number_is, says}
use Rattle.n2k_encode.specs.Value.{if_there, named_value, unnamed}
use Rattle.n2k_encode.proofs.Numbers.{at_most, both, exactly, not_negative, units_are}

whole_found : (raw : ℕ) (text : List ℕ) → number_is 0 (pos raw) 0 text ≡ true → whole_number text ≡ Some raw
unfolding whole_number
whole_found raw text is =
    let parts = exactly (pos raw) 0 text is in
    let one : raw * 1 ≡ raw = omega arith in
    let sign : has_sign (is_negative text) (pos raw *ℤ pos 1) ≡ true = subst (λ n. has_sign (is_negative text) (pos n) ≡ true) (sym one) parts.0 in
    let plain : (is_negative text && nat_lt 0 raw) ≡ false = not_negative (is_negative text) raw 1 (omega arith) sign in
    let units : multiples false 0 10 (record { size = 10 * raw; more = false }) ≡ Some raw = subst (λ n. multiples false 0 10 (record { size = 10 * n; more = false }) ≡ Some raw) one (units_are 1 raw 0 (omega arith)) in
    rw (parts.1, units, plain) refl

-- a number without a name
pub unnamed_accepted : (entries : List (ℕ × List ℕ)) (n raw : ℕ) (text : List ℕ) → n ≤ 64 → raw < 2 ^ n → name_of_value entries raw ≡ None → says 0 (shown_name None n raw) (number text) ≡ true
    → if_there entries n (named_value entries (greatest false n) (number text)) ≡ Some raw
unfolding says unnamed
unnamed_accepted entries n raw text few below none e = elim (cases_Bool (nat_le 2 n && raw == greatest false n)) [
  | inl absent ↦
      let no : false ≡ true = rw absent at e in
      absurd cc
  | inr there ↦
      let shown : number_is 0 (pos raw) 0 text ≡ true = rw there at e in
      let found = whole_found raw text shown in
      let most : 2 ^ n ≤ 2 ^ 64 = pow-le-pow_right (lit< tt) {i = n} few in
      let room : nat_lt raw (2 ^ 64) ≡ true = grind (arith, below, most) in
      let inside : nat_le raw (greatest false n) ≡ true = at_most raw (greatest false n) (omega (arith, below)) in
      let available : (raw == greatest false n && nat_le 2 n) ≡ false = grind (arith, there) in
      rw (found, room, none, inside, available) refl
]

and_false : (a : Bool) → (a && false) ≡ false
and_false true = refl
and_false false = refl

-- whether an entry has this name and a value that is small enough
abbrev named : ℕ → List ℕ → ℕ × List ℕ → Bool
named most name e = nat_le e.0 most && bytes_eq e.1 name

-- a name, if it is the name of no earlier value that is small enough
pub first_name_accepted : (entries : List (ℕ × List ℕ)) (n raw : ℕ) (name text : List ℕ) → raw < 2 ^ n → name_of_value entries raw ≡ Some name
    → option_map (λ e. e.0) (find (λ e. nat_le e.0 (greatest false n) && bytes_eq e.1 name) entries) ≡ Some raw
    → says 0 (shown_name (Some name) n raw) (string text) ≡ true → if_there entries n (named_value entries (greatest false n) (string text)) ≡ Some raw
unfolding says
first_name_accepted entries n raw name text below named first e =
    let same : text ≡ name = same_text _ _ (sym e) in
    let found : named_value entries (greatest false n) (string text) ≡ Some raw = rw same first in
    let inside : nat_le raw (greatest false n) ≡ true = at_most raw (greatest false n) (omega (arith, below)) in
    rw (found, inside, named, and_false (raw == greatest false n && nat_le 2 n)) refl

-- an entry that has the name of a value is found
some_named : (most raw : ℕ) (name : List ℕ) (entries : List (ℕ × List ℕ)) → nat_le raw most ≡ true → name_of_value entries raw ≡ Some name → is_some (find (named most name) entries) ≡ true
some_named most raw name [] inside is = absurd cc
some_named most raw name (e ∷ es) inside is = elim (cases_Bool (named most name e)) [
  | inl here ↦ rw here refl
  | inr not ↦ elim (cases_Bool (nat_eq raw e.0)) [
    | inl same ↦
        let value : raw ≡ e.0 = eqb-true raw e.0 same in
        let is_name : Some e.1 ≡ Some name = rw same at is in
        let name_is : e.1 ≡ name = grind (arith, is_name) in
        let small : nat_le e.0 most ≡ true = subst (λ n. nat_le n most ≡ true) value inside in
        let found : bytes_eq e.1 name ≡ true = (bytes_eq-Decides e.1 name).1 name_is in
        let yes : named most name e ≡ true = rw (small, found) refl in
        absurd (false≢true (sym not ∙ yes))
    | inr other ↦ rw not (some_named most raw name es inside (rw other at is))
  ]
]

first_found : (x e : ℕ × List ℕ) → Some x ≡ Some e → x ≡ e
first_found x e is = grind (arith, is)

-- the value of an entry that is found has a name
value_named : (p : ℕ × List ℕ → Bool) (entries : List (ℕ × List ℕ)) (e : ℕ × List ℕ) → find p entries ≡ Some e → is_none (name_of_value entries e.0) ≡ false
value_named p [] e is = absurd cc
value_named p (x ∷ es) e is = elim (cases_Bool (nat_eq e.0 x.0)) [
  | inl same ↦ rw same refl
  | inr other ↦ elim (cases_Bool (p x)) [
    | inl here ↦
        let value : e.0 ≡ x.0 = ap (λ (y : ℕ × List ℕ). y.0) (sym (first_found x e (rw here at is))) in
        absurd (false≢true (sym other ∙ eq-eqb e.0 x.0 value))
    | inr not ↦ rw other (value_named p es e (rw not at is))
  ]
]

-- an entry that is found passes the test
found_passes : (p : ℕ × List ℕ → Bool) (entries : List (ℕ × List ℕ)) (e : ℕ × List ℕ) → find p entries ≡ Some e → p e ≡ true
found_passes p [] e is = absurd cc
found_passes p (x ∷ es) e is = elim (cases_Bool (p x)) [
  | inl here ↦ subst (λ (y : ℕ × List ℕ). p y ≡ true) (first_found x e (rw here at is)) here
  | inr not ↦ found_passes p es e (rw not at is)
]

there : (entries : List (ℕ × List ℕ)) (n : ℕ) (name : List ℕ) (o : Option (ℕ × List ℕ)) → find (named (greatest false n) name) entries ≡ o → is_some o ≡ true
    → is_some (if_there entries n (option_map (λ e. e.0) o)) ≡ true
there entries n name None is some = absurd cc
there entries n name (Some e) is some =
    let inside = both (nat_le e.0 (greatest false n)) _ (found_passes (named (greatest false n) name) entries e is) in
    let has = value_named (named (greatest false n) name) entries e is in
    rw (inside.0, has, and_false (e.0 == greatest false n && nat_le 2 n)) refl

-- a name
pub name_accepted : (entries : List (ℕ × List ℕ)) (n raw : ℕ) (name text : List ℕ) → raw < 2 ^ n → name_of_value entries raw ≡ Some name
    → says 0 (shown_name (Some name) n raw) (string text) ≡ true → is_some (if_there entries n (named_value entries (greatest false n) (string text))) ≡ true
unfolding says
name_accepted entries n raw name text below is e =
    let same : text ≡ name = same_text _ _ (sym e) in
    let inside : nat_le raw (greatest false n) ≡ true = at_most raw (greatest false n) (omega (arith, below)) in
    rw same (there entries n name (find (named (greatest false n) name) entries) refl (some_named (greatest false n) raw name entries inside is))
