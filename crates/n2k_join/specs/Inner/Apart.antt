-- The rules on the groups of a state that is read: each group by itself, and their keys by an index.
use Rattle.std.specs.Prelude.{◌≡◌, ℕ, Bool, true, false, not, ◌&&◌, List, [], ◌∷◌, ◌++◌, length, Option, Some, None}
use Rattle.std.specs.List.{list_any}
use Rattle.n2k_table.specs.declared.definition.Kind.{Kind}
use Rattle.n2k_join.specs.declared.counts.Counts.{Counts}
use Rattle.n2k_join.specs.Frames.{Key, same_key}
use Rattle.n2k_join.specs.Open.{Group}
use Rattle.n2k_join.specs.Resumed.{counts_hold, firsts_rise, group_holds}

-- the counts and the first lines can be of a state with these groups
abbrev pub numbers_hold : Counts → List Group → Bool
numbers_hold c gs = counts_hold (record c { held = length gs }) && firsts_rise 1 c.lines gs

-- each group holds, and none has a key that was seen before it
unfoldable pub each_new : (ℕ → Option Kind) → List Key → List Group → Bool
each_new kind seen [] = true
each_new kind seen (g ∷ gs) =
    group_holds kind g && (not (list_any (same_key g.key) seen) && each_new kind (seen ++ g.key ∷ []) gs)

-- A returned value, through view, is this value if the test holds, and None if it doesn't.
abbrev pub SomeUnder : {X Y : Type 0} → (X → Y) → Option X → Bool → Y → Type 0
SomeUnder view (Some x) test y = (test ≡ true) × (view x ≡ y)
SomeUnder view None test y = test ≡ false
