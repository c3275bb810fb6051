-- Properties of each state that a value spells, whatever its numbers.
use Rattle.std.proofs.lemmas.Grind.{common_steps}
use Rattle.std.proofs.Common.{◌≡◌, ◌<◌, ℕ, Bool, true, List, [], ◌∷◌, length, codes, Result, Ok, IfOk, subst, arith}
use Rattle.std.specs.List.{AllByRecursion}
use Rattle.hex.specs.Hex.{decode_sized}
use Rattle.hex.proofs.HexLemmas.{decode_of-ok, decode_sized-ok}
use Rattle.serde_json.specs.Data.{Data}
use Rattle.n2k_wire.specs.Steps.{◌>>=◌, holds_or}
use Rattle.n2k_join.specs.declared.saved.object.StateFormat.{StateFormat}
use Rattle.n2k_join.specs.declared.fault.StateFault.{StateFault}
use Rattle.n2k_join.specs.Frames.{frame_bytes}
use Rattle.n2k_join.specs.Open.{Group}
use Rattle.n2k_join.specs.Resumed.{digits_of, each, elements_of, read_group, read_groups, piece_in, read_piece, read_pieces, required, read_state, valid_if}
use Rattle.n2k_join.specs.Rules.{HasSeven}
use Rattle.n2k_join.specs.State.{State}
use Rattle.n2k_join.specs.Window.{Window}
use Rattle.n2k_join.proofs.SavedGroups.{small_bytes}

-- ---- facts of the values read, step by step

pub if_ok-then : {A B : Type 0} (holds : B → Type 0) (r : Result A StateFault) (f : A → Result B StateFault) → ((x : A) → r ≡ Ok x → IfOk (f x) holds) → IfOk (r >>= f) holds
if_ok-then holds r f each = grind arith

pub if_ok-held : {B : Type 0} (holds : B → Type 0) (fault : StateFault) (test : Bool) (f : Unit {0} → Result B StateFault) → (test ≡ true → IfOk (f tt) holds) → IfOk (holds_or fault test >>= f) holds
if_ok-held holds fault test f each = grind arith

pub if_ok-valid : {B : Type 0} (holds : B → Type 0) (test : Bool) (x : B) → (test ≡ true → holds x) → IfOk (valid_if test x) holds
if_ok-valid holds test x each = grind arith

pub if_ok-of : {B : Type 0} (holds : B → Type 0) (r : Result B StateFault) (x : B) → IfOk r holds → r ≡ Ok x → holds x
if_ok-of holds r x all is = subst (λ r. IfOk r holds) is all

-- ---- bytes

AreSeven : List ℕ → Type 0
AreSeven bytes = (length bytes ≡ frame_bytes) × AllByRecursion (λ byte. byte < 256) bytes

decoded : (text bytes : List ℕ) → decode_sized text frame_bytes ≡ Ok bytes → AreSeven bytes
unfolding AreSeven
decoded text bytes is = grind (arith, decode_sized-ok, decode_of-ok, small_bytes, common_steps)

digits-seven : (d : Data) → IfOk (digits_of frame_bytes d) AreSeven
digits-seven d = grind (arith, decoded)

-- ---- frames and groups

piece_in-seven : (ds : List Data) → IfOk (piece_in ds) HasSeven
unfolding AreSeven
piece_in-seven [] = tt
piece_in-seven (a ∷ []) = tt
piece_in-seven (a ∷ b ∷ []) = grind (arith, digits-seven b)
piece_in-seven (a ∷ b ∷ c ∷ ds) = tt

piece-seven : (d : Data) → IfOk (read_piece d) HasSeven
unfolding read_piece
piece-seven d = if_ok-then HasSeven (elements_of d) piece_in (λ ds e. piece_in-seven ds)

each-holds : {A : Type 0} (holds : A → Type 0) (f : Data → Result A StateFault) → ((d : Data) → IfOk (f d) holds) → (ds : List Data) → IfOk (each f ds) (AllByRecursion holds)
each-holds holds f one [] = tt
each-holds holds f one (d ∷ ds) = grind (arith, each-holds holds f one ds)

pieces-seven : (d : Data) → IfOk (read_pieces d) (AllByRecursion HasSeven)
unfolding read_pieces
pieces-seven d =
    if_ok-then (AllByRecursion HasSeven) (required (codes "frames") d) _ (λ e is. if_ok-then (AllByRecursion HasSeven) (elements_of e) (each read_piece) (λ ds is. each-holds HasSeven read_piece piece-seven ds))

HasFrames : Group → Type 0
HasFrames g = AllByRecursion HasSeven g.pieces

group-frames : (d : Data) → IfOk (read_group d) HasFrames
unfolding read_group HasFrames
group-frames d = grind (arith, pieces-seven d)

groups-frames : (d : Data) → IfOk (read_groups d) (AllByRecursion HasFrames)
unfolding read_groups
groups-frames d =
    if_ok-then (AllByRecursion HasFrames) (required (codes "groups") d) _ (λ e is. if_ok-then (AllByRecursion HasFrames) (elements_of e) (each read_group) (λ ds is. each-holds HasFrames read_group group-frames ds))

-- ---- states

-- A spelled state has as many groups as it counts, frames of seven bytes, and the given order of frames.
pub record IsSpelled (w : Window) (s : State) : Type 0 where
  pub order : s.window.in_order ≡ w.in_order
  pub held : s.counts.held ≡ length s.groups
  pub frames : AllByRecursion (λ (g : Group). AllByRecursion HasSeven g.pieces) s.groups

pub state-spelled : (format : StateFormat) (w : Window) (d : Data) → IfOk (read_state format w d) (IsSpelled w)
unfolding read_state HasFrames
state-spelled format w d = grind (arith, groups-frames d)
