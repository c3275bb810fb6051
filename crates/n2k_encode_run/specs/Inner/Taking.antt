-- The run between two reads, and the effect of each step.
use Rattle.std.specs.Prelude.{◌≡◌, ◌<◌, ◌≤◌, ◌+◌, ℕ, Bool, List, [], ◌∷◌, ◌++◌, length, take, Result, Ok, Err}
use Rattle.std.specs.Io.{IsEmptyOrEndsWith}
use Rattle.std.specs.Io.KnownBytes.{Consumes}
use Rattle.n2k_table.specs.Table.{TableParts}
use Rattle.n2k_join.specs.declared.counts.Counts.{Counts}
use Rattle.n2k_join.specs.Counts.{most_lines}
use Rattle.n2k_run.specs.declared.fault.RunFault.{RunFault}
use Rattle.n2k_run.specs.declared.fault.RunFault.TheVariants.{TooManyLines, Memory}
use Rattle.n2k_run.specs.Blocks.{CallsAre, HasNoFeed}
use Rattle.n2k_run.specs.Lines.{line_feed, lines}
use Rattle.n2k_run.specs.Reading.{ReadsBytes}
use Rattle.n2k_run.specs.Runs.{Devices, NoneFailed}
use Rattle.n2k_encode_run.specs.declared.ledger.Ledger.{Ledger}
use Rattle.n2k_encode_run.specs.Encodes.{Takes}
use Rattle.n2k_encode_run.specs.Outcomes.{Outcome, GiveAll, counts_after, counts_of, reports_from, texts}

-- no count is above the count of lines, which is at most the line limit
pub record AreCounts (c : Counts) : Type 0 where
  pub few : c.lines ≤ most_lines
  pub messages : c.messages ≤ c.lines
  pub bad : c.bad ≤ c.lines

-- these lines were taken: their texts and reports are pending, and they are counted
pub record TakesLines (t : TableParts) (nearest : Bool) (ls : List (List ℕ)) (l l' : Ledger) : Type 0 where
  pub outcomes : List Outcome
  pub given : GiveAll t nearest ls outcomes
  pub counted : l'.counts ≡ counts_after l.counts outcomes
  pub text_is : l'.text.items ≡ l.text.items ++ texts outcomes
  pub report_is : l'.report.items ≡ l.report.items ++ reports_from (l.counts.lines + 1) outcomes

-- the result of one line
abbrev pub TakesLine : {T : Type 0} → TableParts → Bool → List ℕ → Ledger → Ledger → Result T RunFault → Type 0
TakesLine t nearest line l l' (Ok x) = TakesLines t nearest (line ∷ []) l l'
TakesLine t nearest line l l' (Err TooManyLines) = (l' ≡ l) × (l.counts.lines ≡ most_lines)
TakesLine t nearest line l l' (Err Memory) = Unit {0}
TakesLine t nearest line l l' (Err _) = ⊥

-- The result of the lines of bytes that are in memory. If they are over the line limit, it is reached before the last one.
abbrev pub TakesAll : {T : Type 0} → TableParts → Bool → List ℕ → Ledger → Ledger → Result T RunFault → Type 0
TakesAll t nearest bytes l l' (Ok x) = TakesLines t nearest (lines bytes) l l'
TakesAll t nearest bytes l l' (Err TooManyLines) = most_lines < l.counts.lines + length (lines bytes)
TakesAll t nearest bytes l l' (Err Memory) = Unit {0}
TakesAll t nearest bytes l l' (Err _) = ⊥

-- the lines of bytes before `left` were taken
pub record TakesBefore (t : TableParts) (nearest : Bool) (bytes left : List ℕ) (l l' : Ledger) : Type 0 where
  pub before : List (List ℕ)
  pub split : lines bytes ≡ before ++ lines left
  pub taken : TakesLines t nearest before l l'

-- the greatest number of bytes kept of a line: two more than the longest line, for a carriage return and one byte more
abbrev pub most_kept : ℕ
most_kept = 65538

-- Bytes arrived after part of a line. All complete lines before `left` were taken. `kept` is a prefix of the unfinished
-- line after them.
pub record TakesBytes (t : TableParts) (nearest : Bool) (part bytes left kept : List ℕ) (l l' : Ledger) : Type 0 where
  pub prefix : List ℕ
  pub rest : List ℕ
  pub split : part ++ bytes ≡ prefix ++ (rest ++ left)
  pub ends : IsEmptyOrEndsWith prefix line_feed
  pub no_feed : HasNoFeed rest
  pub kept_is : kept ≡ take most_kept rest
  pub taken : TakesLines t nearest (lines prefix) l l'

-- the line limit is reached, and there are more bytes
pub record TakesMost (t : TableParts) (nearest : Bool) (bytes : List ℕ) (l l' : Ledger) : Type 0 where
  pub prefix : List ℕ
  pub more : List ℕ
  pub split : bytes ≡ prefix ++ more
  pub ends : IsEmptyOrEndsWith prefix line_feed
  pub some : 0 < length more
  pub full : l'.counts.lines ≡ most_lines
  pub taken : TakesLines t nearest (lines prefix) l l'

-- the result of bytes that arrived
abbrev pub FeedsBytes : {T : Type 0} → TableParts → Bool → List ℕ → List ℕ → List ℕ → Ledger → Ledger
    → Result T RunFault → Type 0
FeedsBytes t nearest part bytes kept l l' (Ok x) = TakesBytes t nearest part bytes [] kept l l'
FeedsBytes t nearest part bytes kept l l' (Err TooManyLines) = TakesMost t nearest (part ++ bytes) l l'
FeedsBytes t nearest part bytes kept l l' (Err Memory) = Unit {0}
FeedsBytes t nearest part bytes kept l l' (Err _) = ⊥

-- the result of an unfinished line at the end of the log
abbrev pub FeedsRest : {T : Type 0} → TableParts → Bool → List ℕ → Ledger → Ledger → Result T RunFault → Type 0
FeedsRest t nearest part l l' (Ok x) = TakesLines t nearest (lines part) l l'
FeedsRest t nearest part l l' (Err TooManyLines) =
    (l' ≡ l) × (l.counts.lines ≡ most_lines) × (0 < length part)
FeedsRest t nearest part l l' (Err Memory) = Unit {0}
FeedsRest t nearest part l l' (Err _) = ⊥

-- the result of a read: of its bytes, or of the end of the log
pub record TakesRead {T : Type 0} (t : TableParts) (nearest : Bool) (part bytes kept : List ℕ) (l l' : Ledger)
    (result : Result T RunFault) : Type 0 where
  pub at_end : length bytes ≡ 0 → FeedsRest t nearest part l l' result
  pub with_bytes : 0 < length bytes → FeedsBytes t nearest part bytes kept l l' result

-- Nothing is pending: the complete lines so far are taken and written, and a prefix of the unfinished line after them is
-- kept.
pub record BetweenReads (t : TableParts) (nearest : Bool) (before now : Devices) (kept : List ℕ) (l : Ledger)
    (reads : ℕ) : Type 0 where
  pub prefix : List ℕ
  pub rest : List ℕ
  pub came : Consumes before.left now.left (prefix ++ rest)
  pub ends : IsEmptyOrEndsWith prefix line_feed
  pub no_feed : HasNoFeed rest
  pub kept_is : kept ≡ take most_kept rest
  pub taken : Takes t nearest before now l.counts prefix
  pub no_text : l.text.items ≡ []
  pub no_report : l.report.items ≡ []
  pub called : CallsAre before.calls now.calls 0 reads
  pub bytes : ReadsBytes 0 before.left now.left before.calls now.calls
  pub none_failed : NoneFailed before now

-- nothing is counted, and nothing is pending
pub record IsFresh (l : Ledger) : Type 0 where
  pub counts : l.counts ≡ counts_of []
  pub text : l.text.items ≡ []
  pub report : l.report.items ≡ []
