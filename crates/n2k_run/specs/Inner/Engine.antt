-- The engine of the runs between two lines, and its steps.
use Rattle.std.specs.Prelude.{◌≡◌, ◌⊎◌, ◌<◌, ◌≤◌, ◌+◌, ℕ, Bool, true, false, if◌then◌else◌, List, [], ◌++◌, length, Option, Result}
use Rattle.std.specs.Prelude.{Ok, Err}
use Rattle.std.specs.Io.{IsEmptyOrEndsWith}
use Rattle.std.specs.Io.KnownBytes.{Appends, Consumes, IsAtEnd}
use Rattle.n2k_wire.specs.declared.entry.Entry.{Entry}
use Rattle.n2k_wire.specs.declared.entry.Packing.{Packing}
use Rattle.n2k_wire.specs.Entry.{entry}
use Rattle.n2k_join.specs.Counts.{most_lines}
use Rattle.n2k_run.specs.declared.fault.RunFault.{RunFault}
use Rattle.n2k_run.specs.declared.fault.RunFault.TheVariants.{Read, Write, Report, Memory, TooManyLines}
use Rattle.n2k_run.specs.Blocks.{BlocksView, CallsAre, FirstLine, HasNoFeed, unanswered}
use Rattle.n2k_run.specs.Device.{HasFailed}
use Rattle.n2k_run.specs.Entries.{entries}
use Rattle.n2k_run.specs.Lines.{line_feed}
use Rattle.n2k_run.specs.Fold.{Fold, after_all, texts_from, reports_from}
use Rattle.n2k_run.specs.Reading.{ReadsBytes, most_reads}
use Rattle.n2k_run.specs.Runs.{AreNumbered, Devices, NoneFailed}
use Rattle.n2k_run.specs.Writing.{AppendsPrefix}

-- a handler took an entry: the state, the text and the report moved on
pub record MovesOn {S : Type 0} (m : Fold S) (s s' : S) (x : Entry)
    (text text' report report' : List ℕ) : Type 0 where
  pub state_after : s' ≡ m.after s x
  pub text_after : text' ≡ text ++ m.text s x
  pub report_after : report' ≡ report ++ m.report s x
  pub counted : m.lines s' ≡ m.lines s + 1
  pub few : m.lines s < most_lines

-- the state, the text and the report are as they were
pub record Unmoved {S : Type 0} (s s' : S) (text text' report report' : List ℕ) : Type 0 where
  pub same_state : s' ≡ s
  pub same_text : text' ≡ text
  pub same_report : report' ≡ report

-- the result of a handler for an entry
abbrev pub TakesEntry : {S T : Type 0} → Fold S → S → S → Entry → List ℕ → List ℕ → List ℕ → List ℕ → Result T RunFault
    → Type 0
TakesEntry m s s' x text text' report report' (Ok y) = MovesOn m s s' x text text' report report'
TakesEntry m s s' x text text' report report' (Err TooManyLines) =
    Unmoved s s' text text' report report' × (m.lines s ≡ most_lines)
TakesEntry m s s' x text text' report report' (Err Memory) = Unit {0}
TakesEntry m s s' x text text' report report' _ = ⊥

-- the next line of the log, and its entry
pub record NextEntry (packing : Packing) (old new : BlocksView) (left₀ left : Option (List ℕ)) (x : Entry) : Type 0 where
  pub came : List ℕ
  pub given : Consumes left₀ left came
  pub line : List ℕ
  pub first : FirstLine (unanswered old ++ came) line (unanswered new) new.has_ended left
  pub entry_is : x ≡ entry line packing

-- the log has no next line
pub record NoneNext (old new : BlocksView) (left₀ left : Option (List ℕ)) : Type 0 where
  pub came : List ℕ
  pub given : Consumes left₀ left came
  pub none : unanswered old ++ came ≡ []
  pub none_held : unanswered new ≡ []
  pub has_ended : new.has_ended ≡ true
  pub at_end : IsAtEnd left

-- the next line didn't come
pub record FailsNext (old : BlocksView) (left₀ left : Option (List ℕ)) : Type 0 where
  pub came : List ℕ
  pub given : Consumes left₀ left came
  pub none : HasNoFeed (unanswered old ++ came)

-- the step at the next line
abbrev pub TakesNext : {S T : Type 0} → Fold S → Packing → S → S → BlocksView → BlocksView → Option (List ℕ) → Option (List ℕ)
    → List ℕ → List ℕ → List ℕ → List ℕ → Result T RunFault → Type 0
TakesNext m packing s s' old new left₀ left text text' report report' (Ok y) =
    ((x : Entry) × NextEntry packing old new left₀ left x × MovesOn m s s' x text text' report report')
    ⊎ (NoneNext old new left₀ left × Unmoved s s' text text' report report')
TakesNext m packing s s' old new left₀ left text text' report report' (Err TooManyLines) =
    (x : Entry) × NextEntry packing old new left₀ left x × Unmoved s s' text text' report report'
    × (m.lines s ≡ most_lines)
TakesNext m packing s s' old new left₀ left text text' report report' (Err Read) =
    FailsNext old left₀ left × Unmoved s s' text text' report report' × (text' ≡ []) × (report' ≡ [])
TakesNext m packing s s' old new left₀ left text text' report report' (Err Memory) = Unit {0}
TakesNext m packing s s' old new left₀ left text text' report report' _ = ⊥

-- the source's failures at the next line: none if a line or the end was found, even if the handler refuses the line
abbrev pub ReadsNext : {T : Type 0} → BlocksView → ℕ → ℕ → Result T RunFault → Type 0
ReadsNext new failed₀ failed (Err Read) = HasFailed failed₀ failed ⊎ ((new.reads ≡ most_reads) × (failed ≡ failed₀))
ReadsNext new failed₀ failed (Err Write) = Unit {0}
ReadsNext new failed₀ failed (Err Report) = Unit {0}
ReadsNext new failed₀ failed _ = failed ≡ failed₀

-- the pending texts are written, the reports first; a sink that fails had something to write
abbrev pub WritesPending : {T : Type 0} → List ℕ → List ℕ → Option (List ℕ) → Option (List ℕ) → Option (List ℕ)
    → Option (List ℕ) → Result T RunFault → Type 0
WritesPending text report w w' e e' (Ok x) = Appends w w' text × Appends e e' report
WritesPending text report w w' e e' (Err Report) = (w' ≡ w) × AppendsPrefix e e' report × (0 < length report)
WritesPending text report w w' e e' (Err Write) = AppendsPrefix w w' text × Appends e e' report × (0 < length text)
WritesPending text report w w' e e' _ = ⊥

-- the sinks' failures when the pending texts are written
abbrev pub FailsPending : {T : Type 0} → ℕ → ℕ → ℕ → ℕ → Result T RunFault → Type 0
FailsPending writes₀ writes reports₀ reports (Ok x) = (writes ≡ writes₀) × (reports ≡ reports₀)
FailsPending writes₀ writes reports₀ reports (Err Write) = HasFailed writes₀ writes × (reports ≡ reports₀)
FailsPending writes₀ writes reports₀ reports (Err Report) = HasFailed reports₀ reports × (writes ≡ writes₀)
FailsPending writes₀ writes reports₀ reports _ = ⊥

-- The output of these entries: the texts and reports of the first entries are written to the sinks, those of the others
-- are pending.
pub record Made {S : Type 0} (m : Fold S) (s₀ s : S) (es : List Entry) (text report : List ℕ)
    (w₀ w e₀ e : Option (List ℕ)) : Type 0 where
  pub written : List Entry
  pub kept : List Entry
  pub entries_are : es ≡ written ++ kept
  pub state : s ≡ after_all m s₀ es
  pub printed : Appends w₀ w (texts_from m s₀ written)
  pub reported : Appends e₀ e (reports_from m s₀ written)
  pub text_is : text ≡ texts_from m (after_all m s₀ written) kept
  pub report_is : report ≡ reports_from m (after_all m s₀ written) kept
  pub counted : m.lines s ≡ m.lines s₀ + length es
  pub numbered : AreNumbered (m.lines s₀) es

-- The engine between two lines: the bytes that came of the log are the taken lines and the block's bytes.
pub record BetweenLines {S : Type 0} (m : Fold S) (packing : Packing) (s₀ s : S) (held : BlocksView) (text report : List ℕ)
    (before now : Devices) : Type 0 where
  pub prefix : List ℕ
  pub came : Consumes before.left now.left (prefix ++ unanswered held)
  -- the taken bytes end with a line, unless the log has ended
  pub whole : held.has_ended ≡ false → IsEmptyOrEndsWith prefix line_feed
  pub end : held.has_ended ≡ true → (unanswered held ≡ []) × IsAtEnd now.left
  pub made : Made m s₀ s (entries packing prefix) text report before.written now.written before.reported now.reported
  pub called : CallsAre before.calls now.calls 0 held.reads
  -- each call but the one that found the end gave bytes
  pub reads : ReadsBytes (if held.has_ended then 1 else 0) before.left now.left before.calls now.calls
  pub none_failed : NoneFailed before now

-- more lines are counted, or the log has ended
abbrev pub Proceeds : {S : Type 0} → Fold S → S → S → Bool → Type 0
Proceeds m s s' has_ended =
    ((m.lines s < most_lines) × (m.lines s < m.lines s')) ⊎ ((has_ended ≡ true) × (m.lines s ≤ m.lines s'))

-- the devices of a run, with the source at another place
abbrev pub read_on : Devices → Option (List ℕ) → ℕ → ℕ → Devices
read_on now left calls failed = record now { left = left; calls = calls; failed_reads = failed }

-- a fault at the next line, which came to an engine between two lines
pub record StopsAtLine {S T : Type 0} (m : Fold S) (packing : Packing) (s₀ s' : S) (text' report' : List ℕ)
    (before now : Devices) (left' : Option (List ℕ)) (calls' failed' : ℕ) (result : Result T RunFault) : Type 0 where
  pub s : S
  pub held : BlocksView
  pub held' : BlocksView
  pub text : List ℕ
  pub report : List ℕ
  pub left : Option (List ℕ)
  pub calls : ℕ
  pub failed : ℕ
  pub stands : BetweenLines m packing s₀ s held text report before (read_on now left calls failed)
  pub on : held.has_ended ≡ false
  pub next : TakesNext m packing s s' held held' left left' text text' report report' result
  pub device : ReadsNext held' failed failed' result
  pub called : CallsAre calls calls' held.reads held'.reads
  pub reads : ReadsBytes 1 left left' calls calls'

-- the step over the next lines, from between two lines
abbrev pub TakesLines : {S T : Type 0} → Fold S → Packing → S → S → BlocksView → List ℕ → List ℕ → Devices → Devices
    → Option (List ℕ) → ℕ → ℕ → Result T RunFault → Type 0
TakesLines m packing s₀ s' held' text' report' before now left' calls' failed' (Ok y) =
    BetweenLines m packing s₀ s' held' text' report' before (read_on now left' calls' failed')
TakesLines {T = T} m packing s₀ s' held' text' report' before now left' calls' failed' (Err fault) =
    StopsAtLine {T = T} m packing s₀ s' text' report' before now left' calls' failed' (Err fault)
