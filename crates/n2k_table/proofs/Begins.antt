-- A text that begins with what was there before.
use Rattle.std.proofs.Common.{◌≡◌, Result, Ok, Err, OnOk, OnErr, ℕ, Bool, true, false, ◌&&◌, nat_eq, ◌≤◌, List, [], ◌∷◌, ◌++◌, length, take, drop, refl, sym, ap, ◌∙◌, arith, append_assoc, append-nil}
use Rattle.n2k_table.specs.Inner.LineBuffer.{begins, AddsText}

-- a text that begins with two parts begins with the first
pub begins_append : (prefix bytes text : List ℕ) → begins (prefix ++ bytes) text ≡ (begins prefix text && begins bytes (drop (length prefix) text))
unfolding begins
begins_append [] bytes text = refl
begins_append (x ∷ xs) bytes [] = refl
begins_append (x ∷ xs) bytes (y ∷ ys) = grind (arith, begins_append xs bytes ys)

pub begins_self : (text : List ℕ) → begins text text ≡ true
unfolding begins
begins_self [] = refl
begins_self (x ∷ xs) = grind (arith, begins_self xs)

pub begins_longer : (prefix text bytes : List ℕ) → begins prefix text ≡ true → begins prefix (text ++ bytes) ≡ true
unfolding begins
begins_longer [] text bytes is = refl
begins_longer (x ∷ xs) [] bytes is = grind arith
begins_longer (x ∷ xs) (y ∷ ys) bytes is = grind (arith, begins_longer xs ys bytes)

-- what was there before is the front of the text
pub begins_taken : (prefix text : List ℕ) → begins prefix text ≡ true → take (length prefix) text ≡ prefix
unfolding begins
begins_taken [] text is = refl
begins_taken (x ∷ xs) [] is = grind arith
begins_taken (x ∷ xs) (y ∷ ys) is = grind (arith, begins_taken xs ys)

pub begins_length : (prefix text : List ℕ) → begins prefix text ≡ true → length prefix ≤ length text
unfolding begins
begins_length [] text is = omega arith
begins_length (x ∷ xs) [] is = grind arith
begins_length (x ∷ xs) (y ∷ ys) is = grind (arith, begins_length xs ys)

pub begins_through : (prefix mid text : List ℕ) → begins prefix mid ≡ true → begins mid text ≡ true → begins prefix text ≡ true
unfolding begins
begins_through [] mid text is then = refl
begins_through (x ∷ xs) [] text is then = grind arith
begins_through (x ∷ xs) (y ∷ ys) [] is then = grind arith
begins_through (x ∷ xs) (y ∷ ys) (z ∷ zs) is then = grind (arith, begins_through xs ys zs)

-- the last part of what is appended to a text
pub adds_last : {T E : Type 0} (r : Result T E) (old mid new bytes all : List ℕ) → begins old mid ≡ true → (new ≡ mid ++ bytes → new ≡ old ++ all)
    → AddsText r mid new bytes → AddsText r old new all
adds_last (Ok done) old mid new bytes all is more added = more added
adds_last (Err refused) old mid new bytes all is more kept = begins_through old mid new is kept

-- bytes that are appended leave what was there before
pub begins_more : (old mid new bytes : List ℕ) → begins old mid ≡ true → new ≡ mid ++ bytes → begins old new ≡ true
begins_more old mid new bytes is more = rw more (begins_longer old mid bytes is)

-- nothing more is appended
pub adds_none : {T E : Type 0} (r : Result T E) (old mid new all : List ℕ) → mid ≡ old ++ all → OnOk r (new ≡ mid) → OnErr r (new ≡ mid) → AddsText r old new all
adds_none (Ok done) old mid new all is same kept = same ∙ is
adds_none (Err refused) old mid new all is same kept = rw kept (begins_more old old mid all (begins_self old) is)

-- two parts and three parts, of which the last may be refused
pub adds_two : {T E : Type 0} (r : Result T E) (old mid new a b : List ℕ) → mid ≡ old ++ a → AddsText r mid new b → AddsText r old new (a ++ b)
adds_two (Ok done) old mid new a b first last = rw (last, first) (append_assoc old a b)
adds_two (Err refused) old mid new a b first last = begins_through old mid new (begins_more old old mid a (begins_self old) first) last

pub adds_three : {T E : Type 0} (r : Result T E) (old l mid new a b c : List ℕ) → l ≡ old ++ a → mid ≡ l ++ b → AddsText r mid new c
    → AddsText r old new (a ++ (b ++ c))
adds_three r old l mid new a b c first second last = adds_two r old l new a (b ++ c) first (adds_two r l mid new b c second last)

-- a part that was refused
pub refused_begins : {T E : Type 0} (r : Result T E) (old mid new : List ℕ) → begins old mid ≡ true → begins mid new ≡ true → OnErr r (begins old new ≡ true)
refused_begins (Ok done) old mid new before kept = tt
refused_begins (Err refused) old mid new before kept = begins_through old mid new before kept

-- bytes that go to the front, when the room has none
pub adds_to_prefix : {T E : Type 0} (r : Result T E) (old prefix more room bytes : List ℕ) (at : ℕ) → at ≡ 0 → prefix ++ take at room ≡ old
    → OnOk r (more ≡ prefix ++ bytes) → OnErr r (more ≡ prefix) → AddsText r old (more ++ take at room) bytes
adds_to_prefix (Ok done) old prefix more room bytes at none is added kept = rw (none, added) (append-nil (prefix ++ bytes) ∙ ap (λ (t : List ℕ). t ++ bytes) (sym (append-nil prefix) ∙ ap (λ k. prefix ++ take k room) (sym none) ∙ is))
adds_to_prefix (Err refused) old prefix more room bytes at none is added kept = rw (kept, is) (begins_self old)

pub ruleset begins_steps = (begins_append, begins_self, begins_longer)
