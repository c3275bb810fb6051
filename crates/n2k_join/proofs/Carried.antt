-- The order of a group's frames does not matter: their bytes decide whether it is complete, its data and its pieces.
use Rattle.std.proofs.Common.{arith, ◌≡◌, ◌==◌, ◌+◌, ℕ, Bool, true, false, cond, not, ◌||◌, ◌&&◌, nat_le, List, [], ◌∷◌, ◌++◌, refl, sym, ap, ◌∙◌, Option, Some, None, unwrap_or, take, drop, flat_map, filter_map, is_some}
use mathlib.Core.Path.{fun_ext}
use Rattle.std.specs.Option.{option_or}
use Rattle.std.specs.List.{range_with_len, list_all}
use Rattle.std.proofs.lemmas.Bool.{or_parts, and_parts, and_from, false≢true, eqb-true, eq-eqb, or_left, or_right}
use Rattle.n2k_join.specs.Frames.{Frame, most_frames}
use Rattle.n2k_join.specs.Groups.{complete, carried, has_number, has_twice, total, total_by, last_number, has_all, is_within, data_of}
use Rattle.n2k_join.specs.Open.{piece_at, pieces_of}

-- two tests that say the same are one
pub same_bool : (a b : Bool) → (a ≡ true → b ≡ true) → (b ≡ true → a ≡ true) → a ≡ b
same_bool a b there back = grind arith

pub option_or_none : {A : Type 0} (o : Option A) → option_or o None ≡ o
option_or_none o = grind arith

pub carried-append : (g h : List Frame) (n : ℕ) → carried (g ++ h) n ≡ option_or (carried g n) (carried h n)
carried-append [] h n = refl
carried-append (f ∷ g) h n = grind (arith, carried-append g h n)

-- frames that carry the same still do with one more frame
pub carried-push : (g h : List Frame) (x : Frame) → carried g ≡ carried h → carried (g ++ x ∷ []) ≡ carried (h ++ x ∷ [])
carried-push g h x e = fun_ext (λ n. carried-append g (x ∷ []) n ∙ ap (λ (c : ℕ → Option (List ℕ)). option_or (c n) (carried (x ∷ []) n)) e ∙ sym (carried-append h (x ∷ []) n))

is_some-or : {A : Type 0} (o p : Option A) → is_some (option_or o p) ≡ (is_some o || is_some p)
is_some-or o p = grind arith

pub has_number-append : (g h : List Frame) (n : ℕ) → has_number n (g ++ h) ≡ (has_number n g || has_number n h)
has_number-append g h n = ap is_some (carried-append g h n) ∙ is_some-or (carried g n) (carried h n)

-- equality of numbers is symmetric
pub eqb-sym : (a b : ℕ) → (a == b) ≡ (b == a)
eqb-sym a b = same_bool _ _ (λ e. eq-eqb b a (sym (eqb-true a b e))) (λ e. eq-eqb a b (sym (eqb-true b a e)))

-- with one more frame, a list has that frame's number and the others'
pub has_number-cons : (f : Frame) (fs : List Frame) (n : ℕ) → has_number n (f ∷ fs) ≡ ((f.number == n) || has_number n fs)
has_number-cons f fs n = grind arith

has_one : (f x : Frame) → has_number f.number (x ∷ []) ≡ (f.number == x.number)
has_one f x = grind arith

-- if no number is repeated, then with one more frame a number is repeated exactly if that frame's is in the group
pub has_twice-push : (g : List Frame) (x : Frame) → has_twice g ≡ false → has_twice (g ++ x ∷ []) ≡ has_number x.number g
has_twice-push [] x h = refl
has_twice-push (f ∷ g) x h =
    ap (λ b. b || has_twice (g ++ x ∷ [])) (has_number-append g (x ∷ []) f.number ∙ ap (λ b. b || has_number f.number (x ∷ [])) (or_parts _ _ h).0 ∙ has_one f x)
    ∙ ap (λ b. (f.number == x.number) || b) (has_twice-push g x (or_parts _ _ h).1)
    ∙ elim (f.number == x.number) as (λ b. (b || has_number x.number g) ≡ is_some (cond b (Some f.bytes) (carried g x.number))) [ true ↦ refl | false ↦ refl ]

pub within_there : (last : ℕ) (g : List Frame) (n : ℕ) → is_within last g ≡ true → has_number n g ≡ true → nat_le n last ≡ true
within_there last [] n w h = absurd (false≢true h)
within_there last (f ∷ g) n w h = by (f.number == n) refl h (within_there last g n (and_parts _ _ w).1)
  where
    by : (b : Bool) → (f.number == n) ≡ b → is_some (cond b (Some f.bytes) (carried g n)) ≡ true → (has_number n g ≡ true → nat_le n last ≡ true) → nat_le n last ≡ true
    by b e h rest = grind arith

pub within_back : (last : ℕ) (g : List Frame) → ((n : ℕ) → has_number n g ≡ true → nat_le n last ≡ true) → is_within last g ≡ true
within_back last [] all = refl
within_back last (f ∷ g) all =
    and_from _ _ (all f.number (has_number-cons f g f.number ∙ or_left _ _ (eq-eqb f.number f.number refl)))
    (within_back last g (λ n h. all n (has_number-cons f g n ∙ or_right _ _ h)))

within-same : (last : ℕ) (g h : List Frame) → carried g ≡ carried h → is_within last g ≡ is_within last h
within-same last g h e = grind (arith, same_bool (is_within last g) (is_within last h) (λ w. within_back last h (λ n k. within_there last g n w (ap (λ (c : ℕ → Option (List ℕ)). is_some (c n)) e ∙ k))) (λ w. within_back last g (λ n k. within_there last h n w (ap (λ (c : ℕ → Option (List ℕ)). is_some (c n)) (sym e) ∙ k))))

-- completeness depends on whether a number is repeated, what is carried, and whether all is within the last
complete_by : Bool → (ℕ → Option (List ℕ)) → Bool → Bool
complete_by twice c within = not twice && (is_some (c 0) && (list_all (λ n. is_some (c n)) (range_with_len 0 (last_number (total_by (c 0)) + 1)) && within))

complete_is : (g : List Frame) → complete g ≡ complete_by (has_twice g) (carried g) (is_within (last_number (total g)) g)
unfolding complete complete_by
complete_is g = refl

pub complete-same : (g h : List Frame) → carried g ≡ carried h → has_twice g ≡ has_twice h → complete g ≡ complete h
complete-same g h e t = grind (arith, complete_is g, complete_is h, within-same (last_number (total h)) g h e)

data_by : (ℕ → Option (List ℕ)) → List ℕ
data_by c = take (total_by (c 0)) (drop 1 (flat_map (λ n. unwrap_or (c n) []) (range_with_len 0 (last_number (total_by (c 0)) + 1))))

pub data_of-same : (g h : List Frame) → carried g ≡ carried h → data_of g ≡ data_of h
unfolding data_of data_by
data_of-same g h e = ap data_by e

pub pieces_of-same : (g h : List Frame) → carried g ≡ carried h → pieces_of g ≡ pieces_of h
unfolding pieces_of
pieces_of-same g h e = ap (λ (c : ℕ → Option (List ℕ)). filter_map (piece_at c) (range_with_len 0 most_frames)) e

-- a group without frame 0 is not complete
pub complete-without_zero : (g : List Frame) → has_number 0 g ≡ false → complete g ≡ false
unfolding complete
complete-without_zero g h = ap (λ b. not (has_twice g) && (b && (has_all (last_number (total g)) g && is_within (last_number (total g)) g))) h ∙ elim (not (has_twice g)) as (λ b. (b && false) ≡ false) [ true ↦ refl | false ↦ refl ]
