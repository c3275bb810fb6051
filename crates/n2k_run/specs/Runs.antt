-- The promise of every run, by the texts and the reports of the entries of its log.
use Rattle.std.specs.Prelude.{◌≡◌, ◌⊎◌, ◌<◌, ◌≤◌, ◌+◌, ℕ, List, ◌∷◌, ◌++◌, length, Option, None, Result, Ok, Err, OnErr}
use Rattle.std.specs.Prelude.{IfSome}
use Rattle.std.specs.Io.KnownBytes.{Appends, Consumes, IsAtEnd}
use Rattle.n2k_wire.specs.declared.entry.Entry.{Entry}
use Rattle.n2k_wire.specs.declared.entry.Packing.{Packing}
use Rattle.n2k_join.specs.Counts.{most_lines}
use Rattle.n2k_run.specs.declared.device.Sink.{Ghosts as OfSink}
use Rattle.n2k_run.specs.declared.device.Source.{Ghosts as OfSource}
use Rattle.n2k_run.specs.declared.fault.RunFault.{RunFault}
use Rattle.n2k_run.specs.declared.fault.RunFault.TheVariants.{Read, Write, Report, Memory, TooManyLines}
use Rattle.n2k_run.specs.Device.{HasFailed}
use Rattle.n2k_run.specs.Entries.{entries}
use Rattle.n2k_run.specs.Lines.{whole_lines}
use Rattle.n2k_run.specs.Fold.{Fold, texts_from, reports_from}
use Rattle.n2k_run.specs.Reading.{OutlastsReads, ReadsBytes}
use Rattle.n2k_run.specs.Writing.{AppendsPrefix}

-- the output of a run for the entries of its log
pub record Output : Type 0 where
  -- how the data of its lines are packed
  pub packing : Packing
  -- the lines that were counted before its first
  pub counted : ℕ
  pub texts : List Entry → List ℕ
  pub reports : List Entry → List ℕ

-- the output of a run from a state on
abbrev pub output_from : {S : Type 0} → Fold S → Packing → S → Output
output_from m packing s = record {
  packing = packing;
  counted = m.lines s;
  texts = texts_from m s;
  reports = reports_from m s;
}

-- the three devices of a run, as contracts see them before it or after it
pub record Devices : Type 0 where
  -- the source's remaining bytes, if known
  pub left : Option (List ℕ)
  -- the calls that were made of the source
  pub calls : ℕ
  pub failed_reads : ℕ
  -- the bytes that the sink of the texts contains, if known
  pub written : Option (List ℕ)
  pub failed_writes : ℕ
  -- the bytes that the sink of the reports contains, if known
  pub reported : Option (List ℕ)
  pub failed_reports : ℕ

-- the devices of a run, in the order in which it takes them
abbrev pub devices : Option (List ℕ) → ℕ → ℕ → Option (List ℕ) → ℕ → Option (List ℕ) → ℕ → Devices
devices left calls failed_reads written failed_writes reported failed_reports = record {
  left = left;
  calls = calls;
  failed_reads = failed_reads;
  written = written;
  failed_writes = failed_writes;
  reported = reported;
  failed_reports = failed_reports;
}

-- The devices of a run, as contracts see a source and a sink: in a clause, `R.Source` and `W.Sink` name the types of
-- the run's devices.
abbrev pub seen : {R W E : Type 0} → OfSource R → OfSink W → OfSink E → R → W → E → Devices
seen r w e reader writer reporter =
    devices (r.remaining reader) (r.calls reader) (r.failed_calls reader) (w.contents writer) (w.failed_calls writer)
    (e.contents reporter) (e.failed_calls reporter)

-- the devices of runs over parts in memory: only the sinks, since each part has its own source
abbrev pub sinks_seen : {W E : Type 0} → OfSink W → OfSink E → W → E → Devices
sinks_seen w e writer reporter =
    devices None 0 0 (w.contents writer) (w.failed_calls writer) (e.contents reporter) (e.failed_calls reporter)

-- the sinks gained exactly the texts and the reports of these entries
pub record Gained (o : Output) (before after : Devices) (es : List Entry) : Type 0 where
  pub printed : Appends before.written after.written (o.texts es)
  pub reported : Appends before.reported after.reported (o.reports es)

-- each of these entries, which begin with line `counted + 1`, has a number within the limit
abbrev pub AreNumbered : ℕ → List Entry → Type 0
AreNumbered counted es = 0 < length es → counted + length es ≤ most_lines

-- The run came to its end: bytes came until the source had no more, and the texts and reports of all their entries were
-- written. If the source's bytes are known, these are all of them. `also` holds after a run has taken these entries.
pub record IsWhole (o : Output) (also : List Entry → Type 0) (before after : Devices) : Type 0 where
  pub came : List ℕ
  pub given : Consumes before.left after.left came
  pub at_end : IsAtEnd after.left
  pub numbered : AreNumbered o.counted (entries o.packing came)
  pub gained : Gained o before after (entries o.packing came)
  pub holds : also (entries o.packing came)

-- After Read the run is after the last line whose LF came: it has taken exactly the lines up to there.
pub record IsCut (o : Output) (also : List Entry → Type 0) (before after : Devices) : Type 0 where
  pub came : List ℕ
  pub given : Consumes before.left after.left came
  pub numbered : AreNumbered o.counted (entries o.packing (whole_lines came))
  pub gained : Gained o before after (entries o.packing (whole_lines came))
  pub holds : also (entries o.packing (whole_lines came))

-- After TooManyLines the run is at the last number: it has taken the most lines, and the bytes, if they are known, have
-- one more.
pub record IsAtLastNumber (o : Output) (also : List Entry → Type 0) (before after : Devices) : Type 0 where
  pub taken : List Entry
  pub full : o.counted + length taken ≡ most_lines
  pub left : IfSome before.left (λ log. (next : Entry) × (more : List Entry)
      × (entries o.packing log ≡ taken ++ next ∷ more))
  pub gained : Gained o before after taken
  pub holds : also taken

-- how a run ends
abbrev pub RunEnds : {T : Type 0} → Output → (List Entry → Type 0) → Devices → Devices → Result T RunFault → Type 0
RunEnds o also before after (Ok x) = IsWhole o also before after
RunEnds o also before after (Err Read) = IsCut o also before after
RunEnds o also before after (Err TooManyLines) = IsAtLastNumber o also before after
RunEnds o also before after (Err Write) = Unit {0}
RunEnds o also before after (Err Report) = Unit {0}
RunEnds o also before after (Err Memory) = Unit {0}

-- the sinks gained a prefix of the texts and a prefix of the reports of the whole log
pub record HasPrefixes (o : Output) (before after : Devices) (log : List ℕ) : Type 0 where
  pub printed : AppendsPrefix before.written after.written (o.texts (entries o.packing log))
  pub reported : AppendsPrefix before.reported after.reported (o.reports (entries o.packing log))

-- Reports go before texts: the reports of the lines up to some line are all written, and the written texts are a prefix
-- of the texts of the same lines. So no text is written if the report of its own line or of an earlier one is missing.
pub record ReportsFirst (o : Output) (before after : Devices) (log : List ℕ) : Type 0 where
  pub taken : List Entry
  pub left : List Entry
  pub lines_taken : entries o.packing log ≡ taken ++ left
  pub printed : AppendsPrefix before.written after.written (o.texts taken)
  pub reported : (more : List ℕ) × Appends before.reported after.reported (o.reports taken ++ more)

-- no call of a device failed
pub record NoneFailed (before after : Devices) : Type 0 where
  pub reads : after.failed_reads ≡ before.failed_reads
  pub writes : after.failed_writes ≡ before.failed_writes
  pub reports : after.failed_reports ≡ before.failed_reports

-- a call of the source failed, or none did and 10^12 reads found no end; no call of a sink failed
pub record ReadFails (before after : Devices) : Type 0 where
  pub reads : HasFailed before.failed_reads after.failed_reads
      ⊎ (OutlastsReads before.calls after.calls × (after.failed_reads ≡ before.failed_reads))
  pub writes : after.failed_writes ≡ before.failed_writes
  pub reports : after.failed_reports ≡ before.failed_reports

-- a call of the sink of the texts failed, and none of another device
pub record WriteFails (before after : Devices) : Type 0 where
  pub reads : after.failed_reads ≡ before.failed_reads
  pub writes : HasFailed before.failed_writes after.failed_writes
  pub reports : after.failed_reports ≡ before.failed_reports

-- a call of the sink of the reports failed, and none of another device
pub record ReportFails (before after : Devices) : Type 0 where
  pub reads : after.failed_reads ≡ before.failed_reads
  pub writes : after.failed_writes ≡ before.failed_writes
  pub reports : HasFailed before.failed_reports after.failed_reports

-- A fault of a device is that device's own, or for Read that no end was found by 10^12 reads, and no other device
-- failed. No failure of a device is reported as another fault, or as none.
abbrev pub IsOfDevice : {T : Type 0} → Devices → Devices → Result T RunFault → Type 0
IsOfDevice before after (Err Read) = ReadFails before after
IsOfDevice before after (Err Write) = WriteFails before after
IsOfDevice before after (Err Report) = ReportFails before after
IsOfDevice before after _ = NoneFailed before after

-- the promise of every run
pub record Runs {T : Type 0} (o : Output) (also : List Entry → Type 0) (before after : Devices)
    (result : Result T RunFault) : Type 0 where
  pub ends : RunEnds o also before after result
  pub prefixes : OnErr result (IfSome before.left (λ log. HasPrefixes o before after log))
  pub reports_first : IfSome before.left (λ log. ReportsFirst o before after log)
  pub device : IsOfDevice before after result
  -- at most one more call was made of the source than bytes came of it
  pub reads : ReadsBytes 1 before.left after.left before.calls after.calls
