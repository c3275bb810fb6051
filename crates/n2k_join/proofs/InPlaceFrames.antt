-- The frames of a message, one by one.
use Rattle.std.proofs.Common.{◌≡◌, ℕ, zero, suc, ◌+◌, ◌/◌, ◌<◌, ◌≤◌, List, [], ◌∷◌, ◌++◌, length, map, take, Option, None, Some, option_map, refl, sym, append_assoc, arith, slice_get}
use Rattle.std.specs.List.{AllByRecursion, range_with_len}
use Rattle.std.proofs.Math.Seq.{take-suc}
use Rattle.std.proofs.lemmas.List.FromFn.{get_or-map-range_with_len, length-map-range_with_len}
use Rattle.std.proofs.lemmas.Option.{get_or_from_slice_get, slice_get-get_or, slice_get_within}
use Rattle.n2k_wire.specs.Packet.{PacketParts, longest_message}
use Rattle.n2k_table.specs.declared.definition.Kind.{Kind}
use Rattle.n2k_table.specs.declared.definition.Kind.TheVariants.{Single, Fast}
use Rattle.n2k_join.specs.Frames.{most_sequences}
use Rattle.n2k_join.specs.Inner.Stored.{AreFrames}
use Rattle.n2k_join.specs.Pieces.{last_piece, piece, pieces_as}

pub count_single : (m : PacketParts) (s : ℕ) → length (pieces_as (Some Single) m s) ≡ 1
unfolding pieces_as
count_single m s = refl

pub count_fast : (m : PacketParts) (s : ℕ) → length (pieces_as (Some Fast) m s) ≡ last_piece m + 1
unfolding pieces_as
count_fast m s = length-map-range_with_len (piece m s) 0 (last_piece m + 1)

-- a message of a single PGN is its own frame, whatever the sequence
pub pieces_single : (m : PacketParts) (s t : ℕ) → pieces_as (Some Single) m s ≡ pieces_as (Some Single) m t
unfolding pieces_as
pieces_single m s t = refl

pub single_at : (m : PacketParts) (s n : ℕ) → n < length (pieces_as (Some Single) m s) → slice_get (pieces_as (Some Single) m s) n ≡ Some m
unfolding pieces_as
single_at m s zero within = refl
single_at m s (suc n) within = absurd (omega (arith, within))

pub fast_at : (m : PacketParts) (s n : ℕ) → n < length (pieces_as (Some Fast) m s) → slice_get (pieces_as (Some Fast) m s) n ≡ Some (piece m s n)
unfolding pieces_as
fast_at m s n within = grind (arith, count_fast m s, slice_get-get_or (map (piece m s) (range_with_len 0 (last_piece m + 1))) n m within, get_or-map-range_with_len)

-- the number of a message's frames
pub are_single : (m : PacketParts) → AreFrames 0 1 (pieces_as (Some Single) m 0)
are_single m = record { small = omega arith; counted = sym (count_single m 0); some = omega arith; few = omega arith }

pub are_fast : (m : PacketParts) (s n : ℕ) → s < most_sequences → length m.payload ≤ longest_message → n ≡ length m.payload / 7 + 1 → AreFrames s n (pieces_as (Some Fast) m s)
are_fast m s n small short is = record { small = small; counted = omega (arith, is, count_fast m s); some = omega (arith, is); few = omega (arith, is, short) }

-- the most frames of a message
pub few_frames : (k : Option Kind) (m : PacketParts) (s : ℕ) → length (pieces_as k m s) ≤ length m.payload / 7 + 1
unfolding pieces_as
few_frames k m s = grind (arith, length-map-range_with_len)

-- one element more of a list
pub one_more : {A : Type 0} (xs : List A) (n : ℕ) (x : A) → slice_get xs n ≡ Some x → take (n + 1) xs ≡ take n xs ++ x ∷ []
one_more xs n x is = grind (arith, take-suc xs n x (slice_get_within xs n x is), get_or_from_slice_get xs n x x is)

-- a frame was appended
pub pushed : (start now after frames : List PacketParts) (n : ℕ) (x : PacketParts) → slice_get frames n ≡ Some x → now ≡ start ++ take n frames → after ≡ now ++ x ∷ [] → after ≡ start ++ take (n + 1) frames
pushed start now after frames n x is before grown = grind (arith, append_assoc, one_more)

-- ---- a frame by its data

-- a frame differs from its message in its data alone
abbrev IsFrameOf : PacketParts → PacketParts → Type 0
IsFrameOf m p = p ≡ record m { payload = p.payload }

pieces_are : (m : PacketParts) (s first n : ℕ) → AllByRecursion (IsFrameOf m) (map (piece m s) (range_with_len first n))
pieces_are m s first zero = tt
pieces_are m s first (suc n) = (refl, pieces_are m s (first + 1) n)

frames_are : (k : Option Kind) (m : PacketParts) (s : ℕ) → AllByRecursion (IsFrameOf m) (pieces_as k m s)
unfolding pieces_as
frames_are None m s = tt
frames_are (Some Single) m s = (refl, tt)
frames_are (Some Fast) m s = pieces_are m s 0 _

data_at : (m : PacketParts) (ps : List PacketParts) (n : ℕ) (bytes : List ℕ) → AllByRecursion (IsFrameOf m) ps → option_map (λ p. p.payload) (slice_get ps n) ≡ Some bytes → slice_get ps n ≡ Some (record m { payload = bytes })
data_at m [] n bytes all is = absurd (grind arith)
data_at m (p ∷ ps) zero bytes all is = grind (arith, all.0)
data_at m (p ∷ ps) (suc n) bytes all is = data_at m ps n bytes all.1 is

-- the frame of these data
pub frame_at : (k : Option Kind) (m : PacketParts) (s n : ℕ) (ps : List PacketParts) (bytes : List ℕ) → ps ≡ pieces_as k m s → option_map (λ p. p.payload) (slice_get ps n) ≡ Some bytes → slice_get ps n ≡ Some (record m { payload = bytes })
frame_at k m s n ps bytes are is = data_at m ps n bytes (rw are (frames_are k m s)) is
