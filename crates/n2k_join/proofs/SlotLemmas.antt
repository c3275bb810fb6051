-- The slots of a group carry what the group's frames carry, and its mask decides whether it is complete.
use Rattle.std.proofs.lemmas.Grind.{common_steps, flat_map-append}
use Rattle.std.proofs.Common.{◌≡◌, ◌==◌, ◌≤◌, ◌<◌, ◌+◌, ◌-◌, ◌*◌, ◌/◌, ◌%◌, ◌^◌, ℕ, suc, zero, Bool, true, false, cond, not, ◌&&◌, nat_le, List, [], ◌∷◌, ◌++◌, length, get_or, set, w32, refl, sym, ap, ◌∙◌, subst, arith, Some, None, option_map, flat_map, take, drop, bit_or, slice_index, slice_index_or, ◌⊎◌, inl, inr, is_some, shr-shr}
use Rattle.std.specs.Int.{bit_at}
use Rattle.std.specs.Option.{option_or}
use Rattle.std.specs.List.{range_with_len, AllByRecursion}
use Rattle.std.proofs.lemmas.Bool.{cases_lt, eqb-true, eq-eqb, and_parts, and_from, le-leb, leb-true, false≢true}
use Rattle.std.proofs.lemmas.Nat.Bits.{bit_at-lt, bit_at-zero, bit_at_ones, bit_at_above, bit_at_set_same, bit_at_set_other, same_from_bits, bit_at_ones_above}
use Rattle.std.proofs.lemmas.List.{get_or-set_same, get_or-set_other, length-append, take-append-le, take-append-drop}
use Rattle.n2k_join.specs.declared.piece.OpenGroup.{OpenGroup}
use Rattle.n2k_wire.specs.Packet.{longest_message}
use Rattle.n2k_join.specs.Frames.{Key, Frame, most_frames, frame_bytes}
use Rattle.n2k_join.specs.Groups.{complete, carried, has_number, has_from, has_twice, has_all, is_within, total, total_by, last_number, bytes_at, data_of}
use Rattle.n2k_join.specs.Open.{Piece, Group, piece_at, pieces_of, group_of}
use Rattle.n2k_join.specs.State.{held_frame, held_of}
use Rattle.n2k_join.specs.Inner.Slots.{slot, slot_of, group_by, group_in}
use Rattle.n2k_join.proofs.Carried.{same_bool, carried-append, pieces_of-same, within_there, within_back}
use Rattle.n2k_join.proofs.Cuts.{HasFrom, from_has, has-from}
use Rattle.n2k_join.proofs.Rising.{filter_map-range, all_from, all_to}
use Rattle.n2k_join.proofs.Held.{carried-held, has_twice-held, pieces_by, pieces_by-rise, bytes_by, bytes_by-past}

-- the bytes of the held frames of a group
pub carried-slots : (k : Key) (g : OpenGroup) (n : ℕ) → n < most_frames → carried (held_of (group_in k g)) n ≡ slot_of g n
carried-slots k g n l = grind (arith, carried-held (group_in k g) 0 (pieces_by (slot_of g)) n (pieces_by-rise (slot_of g)), bytes_by (slot_of g) n l)

pub carried-none : (k : Key) (g : OpenGroup) (n : ℕ) → most_frames ≤ n → carried (held_of (group_in k g)) n ≡ None
carried-none k g n l = grind (arith, carried-held (group_in k g) 0 (pieces_by (slot_of g)) n (pieces_by-rise (slot_of g)), bytes_by-past (slot_of g) n l)

pub once-slots : (k : Key) (g : OpenGroup) → has_twice (held_of (group_in k g)) ≡ false
once-slots k g = has_twice-held (group_in k g) 0 (pieces_by (slot_of g)) (pieces_by-rise (slot_of g))

-- ---- masks

-- a number whose bits are ones below k and zeros from there on
pub mask_is : (w k n : ℕ) → n < 2 ^ w → ((i : ℕ) → i < k → bit_at n i ≡ 1) → ((i : ℕ) → k ≤ i → i < w → bit_at n i ≡ 0) → n ≡ 2 ^ k - 1
mask_is w k n b ones zeros = same_from_bits n (2 ^ k - 1) (λ i. by i (cases_lt i k) (cases_lt i w))
  where
    by : (i : ℕ) → (i < k) ⊎ (k ≤ i) → (i < w) ⊎ (w ≤ i) → bit_at n i ≡ bit_at (2 ^ k - 1) i
    by i h at = grind (arith, bit_at_ones, bit_at_above)

-- ---- completeness

pub is_some-slot : (g : OpenGroup) (n : ℕ) → is_some (slot_of g n) ≡ (bit_at g.mask n == 1)
is_some-slot g n = elim (bit_at g.mask n == 1) as (λ b. is_some (cond b (Some (get_or g.slots n [])) None) ≡ b) [ true ↦ refl | false ↦ refl ]

has-slot : (k : Key) (g : OpenGroup) (n : ℕ) → n < most_frames → has_number n (held_of (group_in k g)) ≡ (bit_at g.mask n == 1)
has-slot k g n l = ap is_some (carried-slots k g n l) ∙ is_some-slot g n

bit_two : (n i : ℕ) → (bit_at n i ≡ 0) ⊎ (bit_at n i ≡ 1)
bit_two n i = grind (arith, bit_at-lt)

module _ (k : Key) (g : OpenGroup) (last : ℕ) (small : last < most_frames) (fits : g.mask < 2 ^ 32) where
  abbrev pub h : List Frame
  h = held_of (group_in k g)

  full_there : (has_all last h && is_within last h) ≡ true → g.mask ≡ 2 ^ (last + 1) - 1
  full_there e =
      let all = (and_parts _ _ e).0 in
      let within = (and_parts _ _ e).1 in
      let ones : (i : ℕ) → i < last + 1 → bit_at g.mask i ≡ 1 = λ i l. eqb-true _ _ (sym (has-slot k g i (omega (arith, l, small))) ∙ all_to (λ n. has_number n (held_of (group_in k g))) 0 (last + 1) i all (omega arith) (omega (arith, l))) in
      let zeros : (i : ℕ) → last + 1 ≤ i → i < 32 → bit_at g.mask i ≡ 0 = λ i l u. none i l u within (bit_two g.mask i) in
      mask_is 32 (last + 1) g.mask fits ones zeros
    where
      none : (i : ℕ) → last + 1 ≤ i → i < 32 → is_within last (held_of (group_in k g)) ≡ true → (bit_at g.mask i ≡ 0) ⊎ (bit_at g.mask i ≡ 1) → bit_at g.mask i ≡ 0
      none i l u within (inl e) = e
      none i l u within (inr e) =
          let there : has_number i (held_of (group_in k g)) ≡ true = has-slot k g i u ∙ eq-eqb _ _ e in
          let le : i ≤ last = leb-true i last (within_there last (held_of (group_in k g)) i within there) in
          absurd (omega (arith, le, l))

  full_back : g.mask ≡ 2 ^ (last + 1) - 1 → (has_all last h && is_within last h) ≡ true
  full_back e =
      and_from _ _
      (all_from (λ n. has_number n (held_of (group_in k g))) 0 (last + 1) (λ i l u. has-slot k g i (omega (arith, u, small)) ∙ eq-eqb _ _ (ap (λ m. bit_at m i) e ∙ bit_at_ones (last + 1) i (omega (arith, u)))))
      (within_back last (held_of (group_in k g)) each)
    where
      by : (n : ℕ) → (n < most_frames) ⊎ (most_frames ≤ n) → (last < n) ⊎ (n ≤ last) → has_number n (held_of (group_in k g)) ≡ true → nat_le n last ≡ true
      by n h c there = grind (arith, carried-none, le-leb, has-slot, bit_at_ones_above)

      each : (n : ℕ) → has_number n (held_of (group_in k g)) ≡ true → nat_le n last ≡ true
      each n there = by n (cases_lt n most_frames) (cases_lt last n) there

  -- a group with frame 0 is complete exactly if its mask is ones up to the last number
  pub complete-mask : has_number 0 h ≡ true → last_number (total h) ≡ last → complete h ≡ (g.mask == 2 ^ (last + 1) - 1)
  unfolding complete
  complete-mask zeroth at =
      (λ i. not (once-slots k g i) && (zeroth i && (has_all (at i) (held_of (group_in k g)) && is_within (at i) (held_of (group_in k g)))))
      ∙ same_bool _ _ (λ e. eq-eqb _ _ (full_there e)) (λ e. full_back (eqb-true _ _ e))

pub incomplete-slots : (k : Key) (g : OpenGroup) → is_some (slot_of g 0) ≡ false → complete (held_of (group_in k g)) ≡ false
unfolding complete
incomplete-slots k g e = grind (arith, once-slots, carried-slots)

-- ---- one piece more

-- slots that carry the same under each number but one, which was empty
pub take-slots : (k : Key) (g : OpenGroup) (first mask : ℕ) (slots : List (List ℕ)) (p : Piece) → p.number < most_frames → first ≡ g.first → slot_of g p.number ≡ None → slot mask slots p.number ≡ Some p.bytes
    → ((n : ℕ) → n < most_frames → (n ≡ p.number → ⊥) → slot mask slots n ≡ slot_of g n)
    → group_by first k mask slots ≡ record (group_in k g) { pieces = pieces_of (held_of (group_in k g) ++ held_frame (group_in k g) p ∷ []) }
unfolding pieces_of
take-slots k g first mask slots p small at missing there others =
    λ i. record { first = at i; key = k; pieces = filter_map-range (piece_at (slot mask slots)) (piece_at (carried (held_of (group_in k g) ++ held_frame (group_in k g) p ∷ []))) 0 most_frames (λ n l u. ap (option_map (λ (bytes : List ℕ). record { number = n; bytes = bytes })) (same n (omega (arith, u)))) i }
  where
    same : (n : ℕ) → n < most_frames → slot mask slots n ≡ carried (held_of (group_in k g) ++ held_frame (group_in k g) p ∷ []) n
    same n l = by (p.number == n) refl ∙ sym (carried-append (held_of (group_in k g)) (held_frame (group_in k g) p ∷ []) n ∙ ap (λ o. option_or o (cond (p.number == n) (Some p.bytes) None)) (carried-slots k g n l))
      where
        by : (b : Bool) → (p.number == n) ≡ b → slot mask slots n ≡ option_or (slot_of g n) (cond b (Some p.bytes) None)
        by b e = grind arith

-- an empty mask fills no slot
pub none-slot : (slots : List (List ℕ)) (n : ℕ) → slot 0 slots n ≡ None
none-slot slots n = ap (λ (b : ℕ). cond (b == 1) (Some (get_or slots n [])) None) (bit_at-zero n)

pub empty-slots : (g : OpenGroup) (n : ℕ) → g.mask ≡ 0 → slot_of g n ≡ None
empty-slots g n empty = ap (λ m. slot m g.slots n) empty ∙ none-slot g.slots n

-- a group without slots, with one piece, is that of its frame
open-by : (k : Key) (slots : List (List ℕ)) (q : Group) (x : Frame) (p : Piece) → p.number ≡ x.number → p.bytes ≡ x.bytes
    → q ≡ record { first = x.line; key = k; pieces = pieces_of (held_of (group_by x.line k 0 slots) ++ held_frame (group_by x.line k 0 slots) p ∷ []) }
    → q ≡ group_of k (x ∷ [])
open-by k slots q x p number bytes taken = grind (arith, pieces_of-same)

pub open-slots : (k : Key) (g : OpenGroup) (q : Group) (x : Frame) (p : Piece) → p.number ≡ x.number → p.bytes ≡ x.bytes → g.first ≡ x.line → g.mask ≡ 0
    → q ≡ record (group_in k g) { pieces = pieces_of (held_of (group_in k g) ++ held_frame (group_in k g) p ∷ []) }
    → q ≡ group_of k (x ∷ [])
open-slots k g q x p number bytes first empty taken =
    open-by k g.slots q x p number bytes (taken ∙ (λ i. record (group_by (first i) k (empty i) g.slots) { pieces = pieces_of (held_of (group_by (first i) k (empty i) g.slots) ++ held_frame (group_by (first i) k (empty i) g.slots) p ∷ []) }))

-- ---- numbers from one on

bit-shr : (m n i : ℕ) → bit_at (m / 2 ^ n) i ≡ bit_at m (n + i)
bit-shr m n i = ap (λ r. r % 2) (shr-shr m n i)

-- a group has a frame of this number or a greater one exactly if its mask has a bit from that number on
module _ (k : Key) (g : OpenGroup) (n : ℕ) (fits : g.mask < 2 ^ 32) where
  bits_there : has_from n (held_of (group_in k g)) ≡ true → not (g.mask / 2 ^ n == 0) ≡ true
  bits_there e = by (g.mask / 2 ^ n == 0) refl (from_has n (held_of (group_in k g)) e)
    where
      by : (b : Bool) → (g.mask / 2 ^ n == 0) ≡ b → HasFrom n (held_of (group_in k g)) → not b ≡ true
      by false t a = refl
      by true t a = small (cases_lt a.number most_frames)
        where
          small : (a.number < most_frames) ⊎ (most_frames ≤ a.number) → false ≡ true
          small (inl l) =
              let one : bit_at g.mask a.number ≡ 1 = eqb-true _ _ (sym (has-slot k g a.number l) ∙ a.has) in
              let at : n + (a.number - n) ≡ a.number = omega (arith, a.least) in
              let none : bit_at g.mask a.number ≡ 0 = ap (bit_at g.mask) (sym at) ∙ sym (bit-shr g.mask n (a.number - n)) ∙ ap (λ m. bit_at m (a.number - n)) (eqb-true _ _ t) ∙ bit_at-zero (a.number - n) in
              absurd (omega (arith, one, none))
          small (inr past) = sym (ap is_some (carried-none k g a.number past)) ∙ a.has

  bits_back : not (g.mask / 2 ^ n == 0) ≡ true → has_from n (held_of (group_in k g)) ≡ true
  bits_back h = by (has_from n (held_of (group_in k g))) refl
    where
      by : (b : Bool) → has_from n (held_of (group_in k g)) ≡ b → b ≡ true
      by true e = refl
      by false e = sym (ap (λ m. not (m == 0)) none) ∙ h
        where
          none_at : (i : ℕ) → (n + i < most_frames) ⊎ (most_frames ≤ n + i) → (bit_at g.mask (n + i) ≡ 0) ⊎ (bit_at g.mask (n + i) ≡ 1) → bit_at g.mask (n + i) ≡ 0
          none_at i (inr past) b = bit_at_above g.mask 32 (n + i) fits past
          none_at i (inl l) (inl zero_it) = zero_it
          none_at i (inl l) (inr one) =
              let from : has_from n (held_of (group_in k g)) ≡ true = has-from n (n + i) (held_of (group_in k g)) (omega arith) (has-slot k g (n + i) l ∙ eq-eqb _ _ one) in
              absurd (false≢true (sym e ∙ from))

          none : g.mask / 2 ^ n ≡ 0
          none = same_from_bits (g.mask / 2 ^ n) 0 (λ i. bit-shr g.mask n i ∙ none_at i (cases_lt (n + i) most_frames) (bit_two g.mask (n + i)) ∙ sym (bit_at-zero i))

  pub from-mask : has_from n (held_of (group_in k g)) ≡ not (g.mask / 2 ^ n == 0)
  from-mask = same_bool (has_from n (held_of (group_in k g))) (not (g.mask / 2 ^ n == 0)) bits_there bits_back

-- ---- a slot written

module _ (first mask number : ℕ) (slots : List (List ℕ)) (bytes : List ℕ) (small : number < most_frames) (many : length slots ≡ most_frames) where
  pub there-slot : slot (bit_or mask (1 * 2 ^ number % 4294967296)) (set slots number bytes) number ≡ Some bytes
  there-slot =
      ap (λ b. cond b (Some (get_or (set slots number bytes) number [])) None) (eq-eqb _ _ (bit_at_set_same w32 mask number small))
      ∙ ap Some (get_or-set_same slots number bytes [] (omega (arith, small, many)))

  pub other-slot : (n : ℕ) → (n ≡ number → ⊥) → slot (bit_or mask (1 * 2 ^ number % 4294967296)) (set slots number bytes) n ≡ slot mask slots n
  other-slot n other = λ i. cond (bit_at_set_other w32 mask number small n other i == 1) (Some (get_or-set_other slots number n bytes [] other i)) None

  -- frame 0 keeps a total that isn't too large
  pub total-slot : (bit_at mask 0 ≡ 1 → slice_index (get_or slots 0 []) 0 ≤ longest_message) → (number ≡ 0 → slice_index bytes 0 ≤ longest_message)
      → bit_at (bit_or mask (1 * 2 ^ number % 4294967296)) 0 ≡ 1 → slice_index (get_or (set slots number bytes) 0 []) 0 ≤ longest_message
  total-slot old new e = by (number == 0) refl
    where
      by : (b : Bool) → (number == 0) ≡ b → slice_index (get_or (set slots number bytes) 0 []) 0 ≤ longest_message
      by true t = grind (arith, get_or-set_same)
      by false t =
          let other : 0 ≡ number → ⊥ = λ f. false≢true (sym t ∙ eq-eqb _ _ (sym f)) in
          subst (λ (bs : List ℕ). slice_index bs 0 ≤ longest_message) (sym (get_or-set_other slots number 0 bytes [] other)) (old (sym (bit_at_set_other w32 mask number small 0 other) ∙ e))

  -- the slots with a piece more
  pub taken-slots : (k : Key) (g : OpenGroup) → g.first ≡ first → g.mask ≡ mask → g.slots ≡ slots → slot_of g number ≡ None
      → group_by first k (bit_or mask (1 * 2 ^ number % 4294967296)) (set slots number bytes) ≡ record (group_in k g) { pieces = pieces_of (held_of (group_in k g) ++ held_frame (group_in k g) (record { number = number; bytes = bytes }) ∷ []) }
  taken-slots k g f m s missing =
      take-slots k g first (bit_or mask (1 * 2 ^ number % 4294967296)) (set slots number bytes) (record { number = number; bytes = bytes }) small (sym f) missing there-slot
      (λ n l other. other-slot n other ∙ (λ i. slot (sym m i) (sym s i) n))

  -- each slot keeps seven bytes
  pub seven-slots : AllByRecursion (λ (b : List ℕ). length b ≡ frame_bytes) slots → length bytes ≡ frame_bytes → AllByRecursion (λ (b : List ℕ). length b ≡ frame_bytes) (set slots number bytes)
  seven-slots all one = grind (arith, common_steps)

-- ---- completeness, by the total that is read

-- a group with frame 0 is complete exactly if its mask is the bits up to the last number that the total needs
pub complete-slots : (k : Key) (g : OpenGroup) → bit_at g.mask 0 ≡ 1 → g.mask < 2 ^ 32
    → complete (held_of (group_in k g)) ≡ (g.mask == 2 ^ (slice_index (get_or g.slots 0 []) 0 / 7 + 1) - 1)
complete-slots k g one fits =
    let at : carried (held_of (group_in k g)) 0 ≡ Some (get_or g.slots 0 []) =
    carried-slots k g 0 (omega arith) ∙ ap (λ b. cond b (Some (get_or g.slots 0 [])) None) (eq-eqb _ _ one) in
    let small : slice_index (get_or g.slots 0 []) 0 ≤ longest_message = g.total one in
    complete-mask k g (slice_index (get_or g.slots 0 []) 0 / 7) (omega (arith, small)) fits (ap is_some at)
    (ap (λ o. last_number (total_by o)) at)

-- ---- the data of a complete group

first-slots : (f : ℕ → List ℕ) (ss : List (List ℕ)) (a m : ℕ) → m ≤ length ss → ((n : ℕ) → n < m → f (a + n) ≡ get_or ss n []) → flat_map f (range_with_len a m) ≡ flat_map (λ x. x) (take m ss)
first-slots f ss a zero few same = refl
first-slots f [] a (suc m) few same = absurd (omega (arith, few))
first-slots f (b ∷ ss) a (suc m) few same =
    let here : a ≡ a + 0 = omega arith in
    let rest = first-slots f ss (a + 1) m (omega (arith, few)) (λ n l. let next : (a + 1) + n ≡ a + suc n = omega arith in ap f next ∙ same (suc n) (omega (arith, l))) in
    (λ i. ((ap f here ∙ same 0 (omega arith)) i) ++ rest i)

length-sevens : (ss : List (List ℕ)) (m : ℕ) → AllByRecursion (λ (b : List ℕ). length b ≡ frame_bytes) ss → m ≤ length ss → length (flat_map (λ (b : List ℕ). b) (take m ss)) ≡ 7 * m
length-sevens ss zero each few = refl
length-sevens [] (suc m) each few = absurd (omega (arith, few))
length-sevens (b ∷ ss) (suc m) each few = grind (arith, length-sevens ss m each.1 (omega (arith, few)), length-append)

-- a slice from the second byte on, within a prefix
within-prefix : (xs ys : List ℕ) (t : ℕ) → t + 1 ≤ length xs → take t (drop 1 (xs ++ ys)) ≡ take t (drop 1 xs)
within-prefix [] ys t l = absurd (omega (arith, l))
within-prefix (x ∷ xs) ys t l = take-append-le t xs ys (omega (arith, l))

module _ (k : Key) (g : OpenGroup) (done : complete (held_of (group_in k g)) ≡ true) where
  abbrev frames : List Frame
  frames = held_of (group_in k g)

  zeroth : has_number 0 (held_of (group_in k g)) ≡ true
  unfolding complete
  zeroth = (and_parts _ _ (and_parts _ _ done).1).0

  -- frame 0 is there
  pub zeroth-slot : bit_at g.mask 0 ≡ 1
  zeroth-slot = eqb-true _ _ (sym (has-slot k g 0 (omega arith)) ∙ zeroth)

  carried-there : (n : ℕ) → n < most_frames → has_number n (held_of (group_in k g)) ≡ true → bytes_at (held_of (group_in k g)) n ≡ get_or g.slots n []
  carried-there n l has = grind (arith, has-slot, carried-slots)

  -- the first byte is the total
  pub total-slots : total (held_of (group_in k g)) ≡ slice_index (get_or g.slots 0 []) 0
  total-slots = ap (λ (b : List ℕ). slice_index_or b 0 0) (carried-there 0 (omega arith) zeroth)

  each_there : has_all (last_number (total (held_of (group_in k g)))) (held_of (group_in k g)) ≡ true
  unfolding complete
  each_there = (and_parts _ _ (and_parts _ _ (and_parts _ _ done).1).1).0

  pub data-slots : slice_index (get_or g.slots 0 []) 0 ≤ longest_message → data_of (held_of (group_in k g)) ≡ take (slice_index (get_or g.slots 0 []) 0) (drop 1 (flat_map (λ (b : List ℕ). b) g.slots))
  unfolding data_of
  data-slots small =
      let t : ℕ = slice_index (get_or g.slots 0 []) 0 in
      let last : ℕ = t / 7 in
      let few : last + 1 ≤ length g.slots = omega (arith, small, g.many) in
      let all = ap (λ n. has_all (last_number n) (held_of (group_in k g))) (sym total-slots) ∙ each_there in
      let same : (n : ℕ) → n < last + 1 → bytes_at (held_of (group_in k g)) (0 + n) ≡ get_or g.slots n [] =
      λ n l. let at : 0 + n ≡ n = omega arith in ap (bytes_at (held_of (group_in k g))) at ∙ carried-there n (omega (arith, l, small)) (all_to (λ n. has_number n (held_of (group_in k g))) 0 (last + 1) n all (omega arith) (omega (arith, l))) in
      let long : t + 1 ≤ length (flat_map (λ (b : List ℕ). b) (take (last + 1) g.slots)) = omega (arith, length-sevens g.slots (last + 1) g.seven few) in
      (λ i. take (total-slots i) (drop 1 (flat_map (bytes_at (held_of (group_in k g))) (range_with_len 0 (last_number (total-slots i) + 1)))))
      ∙ ap (λ bs. take t (drop 1 bs)) (first-slots (bytes_at (held_of (group_in k g))) g.slots 0 (last + 1) few same)
      ∙ sym (within-prefix (flat_map (λ (b : List ℕ). b) (take (last + 1) g.slots)) (flat_map (λ (b : List ℕ). b) (drop (last + 1) g.slots)) t long)
      ∙ ap (λ bs. take t (drop 1 bs)) (sym (flat_map-append (λ (b : List ℕ). b) (take (last + 1) g.slots) (drop (last + 1) g.slots)) ∙ ap (flat_map (λ (b : List ℕ). b)) (take-append-drop (last + 1) g.slots))
