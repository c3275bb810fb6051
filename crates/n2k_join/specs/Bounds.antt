-- The limits of a state, including one that was read.
use Rattle.std.specs.Prelude.{◌≡◌, ◌≤◌, ℕ, ◌+◌, ◌*◌, List, length, Ok, IfSome}
use Rattle.std.specs.List.{AllByRecursion}
use Rattle.n2k_join.specs.declared.saved.object.StateFormat.TheVariants.{WithWindow}
use Rattle.n2k_join.specs.Frames.{most_frames}
use Rattle.n2k_join.specs.Open.{Group}
use Rattle.n2k_join.specs.Resumed.{format_in, parsed}
use Rattle.n2k_join.specs.Saved.{state_text, bare_bytes, group_bytes}
use Rattle.n2k_join.specs.State.{State, AreWaiting}

-- the text is of the format with a window
abbrev pub HasWindow : List ℕ → Type 0
HasWindow bytes = IfSome (parsed bytes) (λ d. format_in d ≡ Ok WithWindow)

-- Few groups are open: the window of none has ended, so there are at most as many as the window has lines; each has few
-- frames; and their saved text is short.
pub record HoldsFew (s : State) : Type 0 where
  pub waiting : AreWaiting s
  pub groups : length s.groups ≤ s.window.lines
  pub frames : AllByRecursion (λ (g : Group). length g.pieces ≤ most_frames) s.groups
  pub saved : length (state_text s) ≤ bare_bytes + group_bytes * s.window.lines
