-- The open groups by key, and the list through them in the order of their first lines: each entry has the places of the
-- groups opened before and after it.
use Rattle.std.specs.Prelude.{◌≡◌, ℕ, zero, suc, ◌+◌, ◌<◌, ◌≤◌, ◌==◌, ◌⊎◌, if◌then◌else◌, List, [], ◌∷◌, length, Option}
use Rattle.std.specs.Prelude.{Some, option_map, filter_map, slice_get}
use Rattle.std.specs.Option.{option_map_or}
use Rattle.std.specs.Map.{lookup, keys_of}
use Rattle.n2k_join.specs.declared.piece.FrameKey.{FrameKey}
use Rattle.n2k_join.specs.declared.piece.OpenGroup.{OpenGroup}
use Rattle.n2k_join.specs.declared.open_groups.Linked.{Linked}
use Rattle.n2k_join.specs.declared.open_groups.OpenGroups.{OpenGroups}
use Rattle.n2k_join.specs.Frames.{same_key}
use Rattle.n2k_join.specs.Open.{Group}
use Rattle.n2k_join.specs.Inner.Stored.{key_of}
use Rattle.n2k_join.specs.Inner.Slots.{group_at}
use Rattle.n2k_join.specs.Inner.Places.{nowhere, AreLinked}

abbrev pub Entries : Type 0
Entries = List (FrameKey × Linked)

-- the open group of a key
abbrev pub found : Entries → FrameKey → Option Linked
found entries key = lookup (λ (k : FrameKey). same_key (key_of key) (key_of k)) entries

-- the group of a key is at this place of the map
abbrev pub StandsAt : Entries → FrameKey → ℕ → Type 0
StandsAt entries key at = (at < length entries) × (slice_get (keys_of entries) at ≡ Some key)

-- the key and the group of an entry
abbrev pub item : FrameKey × Linked → FrameKey × OpenGroup
item e = (e.0, e.1.group)

-- the key and the group of the entry at a place
abbrev pub item_in : Entries → ℕ → Option (FrameKey × OpenGroup)
item_in entries at = option_map item (slice_get entries at)

abbrev pub item_at : OpenGroups → ℕ → Option (FrameKey × OpenGroup)
item_at g = item_in g.groups.entries

-- a place of a group, or that of none
abbrev pub IsPlace : ℕ → ℕ → Type 0
IsPlace count at = (at < count) ⊎ (at ≡ nowhere)

-- the place beside another, on one side; without a group there, the end of that side, or the place itself
abbrev pub beside : (Linked → ℕ) → ℕ → Entries → ℕ → ℕ
beside side end entries at =
    if at == nowhere then end
    else option_map_or (λ (e : FrameKey × Linked). side e.1) (slice_get entries at) at

abbrev pub after_of : OpenGroups → ℕ → ℕ
after_of g = beside (λ l. l.after) g.first g.groups.entries

abbrev pub before_of : OpenGroups → ℕ → ℕ
before_of g = beside (λ l. l.before) g.last g.groups.entries

-- at most so many places from one on, each after the other
abbrev pub places_from : Entries → ℕ → ℕ → List ℕ
places_from entries zero at = []
places_from entries (suc n) at =
    option_map_or (λ (e : FrameKey × Linked). at ∷ places_from entries n e.1.after) (slice_get entries at) []

-- the places of the groups, from the first on
abbrev pub places : OpenGroups → List ℕ
places g = places_from g.groups.entries (length g.groups.entries) g.first

-- the groups at places
abbrev pub groups_at : (ℕ → Option (FrameKey × OpenGroup)) → List ℕ → List Group
groups_at items ps = filter_map (λ at. option_map group_at (items at)) ps

-- the open groups, in the order of the lines that opened them
abbrev pub listed : OpenGroups → List Group
listed g = groups_at (item_at g) (places g)

-- the first lines of groups rise strictly from `least` on, and stay below `next`
abbrev pub RiseBelow : ℕ → ℕ → List Group → Type 0
RiseBelow least next [] = least ≤ next
RiseBelow least next (g ∷ gs) = (least ≤ g.first) × RiseBelow (g.first + 1) next gs

-- the groups are a list, each once, and were opened one after the other at lines before `next`
pub record IsKept (next : ℕ) (g : OpenGroups) : Type 0 where
  pub few : length g.groups.entries < nowhere
  pub linked : AreLinked (length g.groups.entries) (length g.groups.entries) (after_of g) (before_of g) (places g)
  pub counted : length (places g) ≡ length g.groups.entries
  pub rise : RiseBelow 1 next (listed g)

-- the groups stay in their places, and `f` and `g` give the places after and before each
pub record AreRelinked (old new : OpenGroups) (f g : ℕ → ℕ) : Type 0 where
  pub count : length new.groups.entries ≡ length old.groups.entries
  pub items : (at : ℕ) → item_at new at ≡ item_at old at
  pub after : (at : ℕ) → after_of new at ≡ f at
  pub before : (at : ℕ) → before_of new at ≡ g at
