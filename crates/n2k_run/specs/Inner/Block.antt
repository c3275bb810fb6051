-- A block: its places in order, and its private steps.
use Rattle.std.specs.Prelude.{◌≡◌, ◌⊎◌, ◌<◌, ◌≤◌, ◌+◌, ◌-◌, ℕ, Bool, true, false, List, [], ◌∷◌, ◌++◌, length, take}
use Rattle.std.specs.Prelude.{drop, if◌then◌else◌, slice_range, Option, MatchOption}
use Rattle.std.specs.Io.KnownBytes.{IsAtEnd}
use Rattle.n2k_wire.specs.Entry.{longest_line}
use Rattle.n2k_run.specs.declared.blocks.Blocks.TheInside.{Inside}
use Rattle.n2k_run.specs.declared.blocks.Next.{Next}
use Rattle.n2k_run.specs.declared.blocks.Next.TheVariants.{Line, Long, End}
use Rattle.n2k_run.specs.Blocks.{BlocksView, Came, HasNoFeed, Stays, passed, unanswered}
use Rattle.n2k_run.specs.Lines.{line_feed}
use Rattle.n2k_run.specs.Reading.{most_reads}

-- the bytes of a block
abbrev pub block_bytes : ℕ
block_bytes = 4096

-- the first line feed is at that place
pub record EndsAt (bytes : List ℕ) (end : ℕ) : Type 0 where
  pub within : end < length bytes
  pub no_feed : HasNoFeed (take end bytes)
  pub split : bytes ≡ take end bytes ++ line_feed ∷ drop (end + 1) bytes

abbrev pub FindsEnd : List ℕ → Option ℕ → Type 0
FindsEnd bytes found = MatchOption found (HasNoFeed bytes) (EndsAt bytes)

-- the places of a block: the bytes not yet returned
pub record HasPlaces (block : Inside) : Type 0 where
  pub kept_ends : block.start ≤ block.end
  pub kept_within : block.end ≤ block_bytes
  pub few_reads : block.reads ≤ most_reads

abbrev pub block_view : Inside → BlocksView
block_view block = record {
  kept = slice_range block.block block.start block.end;
  is_passing = block.is_passing;
  has_ended = block.has_ended;
  reads = block.reads;
  room = block_bytes - block.end;
}

-- the bytes not yet returned, or none if they continue a long line
abbrev pub held_lines : BlocksView → List ℕ
held_lines held = if held.is_passing then [] else held.kept

-- the block without the first of these bytes
abbrev pub skipped : ℕ → BlocksView → BlocksView
skipped count held = record held { kept = drop count held.kept }

-- the result for a piece whose line is this text
abbrev pub Judges : Bool → List ℕ → Next → Type 0
Judges was_passing text (Line line) = (was_passing ≡ false) × (line.now ≡ text) × (length text ≤ longest_line)
Judges was_passing text Long = (was_passing ≡ true) ⊎ (longest_line < length text)
Judges was_passing text End = ⊥

-- The kept bytes begin with a line of this size, followed by its line feed, or they are that line and the source has ended.
abbrev pub HasLine : List ℕ → ℕ → Bool → Option (List ℕ) → Type 0
HasLine kept size false left = EndsAt kept size
HasLine kept size true left = IsAtEnd left × HasNoFeed kept × (size ≡ length kept)

-- Room was made: the bytes not yet returned stayed, or they were too many for a line and were discarded.
abbrev pub MakesRoom : List ℕ → List ℕ → Type 0
MakesRoom old new = (new ≡ old) ⊎ ((longest_line + 1 < length old) × (new ≡ passed))

-- the bytes that came while no line was found, by calls, so many of which gave none
abbrev pub Reads : ℕ → BlocksView → BlocksView → Option (List ℕ) → Option (List ℕ) → ℕ → ℕ → Type 0
Reads idle old new left₀ left calls₀ calls =
    Came idle old new left₀ left calls₀ calls (λ whole. Stays whole (unanswered new))
