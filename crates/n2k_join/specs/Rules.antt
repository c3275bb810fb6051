-- The rules of a valid state have two forms: tests, which the reader of a text makes in turn, and properties of every
-- join's state. They are equivalent.
use Rattle.std.specs.Prelude.{◌≡◌, ◌<◌, ◌↔◌, ℕ, true, length, Option}
use Rattle.std.specs.List.{AllByRecursion}
use Rattle.n2k_table.specs.declared.definition.Kind.{Kind}
use Rattle.n2k_join.specs.Frames.{frame_bytes}
use Rattle.n2k_join.specs.Open.{Piece, Group}
use Rattle.n2k_join.specs.Resumed.{is_valid}
use Rattle.n2k_join.specs.Saved.{are_waiting}
use Rattle.n2k_join.specs.State.{State, IsState, AreFast, AreWaiting}
use Rattle.n2k_join.specs.Window.{IsWindow}

-- a frame of seven bytes
pub record HasSeven (piece : Piece) : Type 0 where
  pub seven : length piece.bytes ≡ frame_bytes
  pub are_bytes : AllByRecursion (λ byte. byte < 256) piece.bytes

-- The shape of a state that a text spells under a window; its numbers may be any.
pub record HasShape (s : State) : Type 0 where
  pub window : IsWindow s.window.lines
  pub held : s.counts.held ≡ length s.groups
  pub frames : AllByRecursion (λ (g : Group). AllByRecursion HasSeven g.pieces) s.groups

-- A state that passes the tests is a state of a join, with groups of fast PGNs, and such a state passes them. The test
-- of the window is that no group's window has ended.
pub record RulesAreOne (kind : ℕ → Option Kind) (s : State) : Type 0 where
  pub state : is_valid kind s ≡ true → IsState s × AreFast kind s.groups
  pub passes : IsState s → AreFast kind s.groups → is_valid kind s ≡ true
  pub in_time : (are_waiting s ≡ true) ↔ AreWaiting s
