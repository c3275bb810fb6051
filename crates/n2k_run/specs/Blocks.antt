-- How a run reads its log: the block's view, and its next line.
use Rattle.std.specs.Prelude.{◌≡◌, ◌⊎◌, ◌<◌, ◌≤◌, ◌+◌, ◌-◌, ◌^◌, ℕ, Bool, true, false, if◌then◌else◌, List, [], ◌∷◌}
use Rattle.std.specs.Prelude.{◌++◌, length, Option, Some, replicate, Result, Ok, Err, IfSome}
use Rattle.std.specs.List.{All}
use Rattle.std.specs.Io.KnownBytes.{Consumes, IsAtEnd}
use Rattle.n2k_wire.specs.Entry.{longest_line}
use Rattle.n2k_run.specs.declared.blocks.Next.{Next}
use Rattle.n2k_run.specs.declared.blocks.Next.TheVariants.{Line, Long, End}
use Rattle.n2k_run.specs.declared.device.Failed.{Failed}
use Rattle.n2k_run.specs.Lines.{line_feed, is_line_feed, lines, without_return}
use Rattle.n2k_run.specs.Reading.{idle_calls}

-- the contracts' view of `Blocks`
pub record BlocksView : Type 0 where
  -- the bytes that came and were not returned yet
  pub kept : List ℕ
  -- whether they continue a line over the limit, whose first bytes were discarded
  pub is_passing : Bool
  -- whether the source was at its end at the last result
  pub has_ended : Bool
  -- the calls that were made of sources
  pub reads : ℕ
  -- how many bytes more the block takes
  pub room : ℕ

-- the placeholder for the discarded part of a long line: one byte more than a line may have
unfoldable pub passed : List ℕ
passed = replicate (longest_line + 1) 120

-- unanswered: the bytes not yet returned; `passed` is in the place of a discarded part
abbrev pub unanswered : BlocksView → List ℕ
unanswered held = (if held.is_passing then passed else []) ++ held.kept

-- a line ends within the bytes
abbrev pub HasFeed : List ℕ → Type 0
HasFeed bytes = (chunk : List ℕ) × (rest : List ℕ) × (bytes ≡ chunk ++ line_feed ∷ rest)

-- no line ends within the bytes
abbrev pub HasNoFeed : List ℕ → Type 0
HasNoFeed bytes = All (λ byte. is_line_feed byte ≡ false) bytes

-- The bytes begin with this line, followed by the rest: the line ends at a line feed, or at the end of the source, with
-- no bytes left.
pub record FirstLine (bytes line rest : List ℕ) (has_ended : Bool) (left : Option (List ℕ)) : Type 0 where
  pub chunk : List ℕ
  pub line_is : line ≡ without_return chunk
  pub no_feed : HasNoFeed chunk
  pub ends : ((has_ended ≡ false) × (bytes ≡ chunk ++ line_feed ∷ rest))
      ⊎ (IsAtEnd left × (has_ended ≡ true) × (bytes ≡ chunk) × (0 < length chunk) × (rest ≡ []))

-- The bytes begin with a line over the limit.
abbrev pub FirstLong : List ℕ → List ℕ → Bool → Option (List ℕ) → Type 0
FirstLong bytes rest has_ended left =
    (line : List ℕ) × FirstLine bytes line rest has_ended left × (longest_line < length line)

-- No line was found: the bytes are unchanged, or a prefix of them that is too long for a line was replaced by `passed`.
pub record ReplacesLong (whole bytes : List ℕ) : Type 0 where
  pub prefix : List ℕ
  pub rest : List ℕ
  pub whole_is : whole ≡ prefix ++ rest
  pub bytes_are : bytes ≡ passed ++ rest
  pub no_feed : HasNoFeed prefix
  pub long : longest_line + 1 < length prefix

abbrev pub Stays : List ℕ → List ℕ → Type 0
Stays whole bytes = (bytes ≡ whole) ⊎ ReplacesLong whole bytes

-- The result of a call, for all its bytes: the bytes not yet returned before, and the bytes that came.
abbrev pub GivesNext : List ℕ → List ℕ → Bool → Option (List ℕ) → Result Next Failed → Type 0
GivesNext whole rest has_ended left (Ok (Line line)) =
    FirstLine whole line.now rest has_ended left × (length line.now ≤ longest_line)
GivesNext whole rest has_ended left (Ok Long) = FirstLong whole rest has_ended left
GivesNext whole rest has_ended left (Ok End) = IsAtEnd left × (has_ended ≡ true) × (whole ≡ []) × (rest ≡ [])
GivesNext whole rest has_ended left (Err failed) = HasNoFeed whole × Stays whole rest

-- the calls of a source are the counted ones, unless their number is at its greatest
abbrev pub CallsAre : ℕ → ℕ → ℕ → ℕ → Type 0
CallsAre calls₀ calls reads₀ reads = (reads₀ ≤ reads) × ((calls + reads₀ ≡ calls₀ + reads) ⊎ (2 ^ 64 - 1 ≤ calls))

-- The bytes that came of a source while a block went from one state to another, by calls that each gave at least one
-- byte, except for so many; and a property of all the bytes, the ones not yet returned before and these.
pub record Came (idle : ℕ) (old new : BlocksView) (left₀ left : Option (List ℕ)) (calls₀ calls : ℕ)
    (holds : List ℕ → Type 0) : Type 0 where
  pub came : List ℕ
  pub given : Consumes left₀ left came
  pub answer : holds (unanswered old ++ came)
  pub called : CallsAre calls₀ calls old.reads new.reads
  pub few : calls ≤ calls₀ + length came + idle

-- A call's result, the bytes that it read of the source, and the block after it. Only the call that finds the end or
-- fails gives no byte.
abbrev pub Answers : BlocksView → BlocksView → Option (List ℕ) → Option (List ℕ) → ℕ → ℕ → Result Next Failed → Type 0
Answers old new left₀ left calls₀ calls result = Came (idle_calls new.has_ended result) old new left₀ left calls₀ calls
    (λ whole. GivesNext whole (unanswered new) new.has_ended left result)

-- a result, by the lines of the bytes not yet returned and of the source's remaining bytes
abbrev pub AnswersLine : List ℕ → List ℕ → Result Next Failed → Type 0
AnswersLine bytes rest (Ok (Line line)) = lines bytes ≡ line.now ∷ lines rest
AnswersLine bytes rest (Ok Long) = (long : List ℕ) × (lines bytes ≡ long ∷ lines rest) × (longest_line < length long)
AnswersLine bytes rest (Ok End) = (bytes ≡ []) × (rest ≡ [])
AnswersLine bytes rest (Err failed) = Stays bytes rest

-- a result, if the source's bytes are known
abbrev pub AnswersKnown : BlocksView → BlocksView → Option (List ℕ) → Option (List ℕ) → Result Next Failed → Type 0
AnswersKnown old new left₀ left result =
    IfSome left₀ (λ bytes. (rest : List ℕ) × (left ≡ Some rest)
    × AnswersLine (unanswered old ++ bytes) (unanswered new ++ rest) result)
