-- The texts of reports and of the summary.
use Rattle.std.specs.Prelude.{ℕ, List, [], ◌++◌, Option, Some, None, codes, decimal}
use Rattle.std.specs.List.{flat_map, enumerate_from}
use Rattle.n2k_wire.specs.declared.entry.BadCause.{BadCause}
use Rattle.n2k_wire.specs.declared.entry.BadCause.TheVariants as causes
use Rattle.n2k_wire.specs.declared.entry.Entry.{Entry}
use Rattle.n2k_wire.specs.declared.entry.Entry.TheVariants.{Bad}
use Rattle.n2k_join.specs.declared.step.Broken.{Broken}
use Rattle.n2k_join.specs.declared.counts.Counts.{Counts}

-- a cause's number and word
abbrev pub cause_text : BadCause → List ℕ
cause_text causes.Long = codes "B1 long"
cause_text causes.Stamp = codes "B2 stamp"
cause_text causes.Form = codes "B3 form"
cause_text causes.Identifier = codes "B4 identifier"
cause_text causes.Number = codes "B5 number"
cause_text causes.Data = codes "B6 data"
cause_text causes.Fast = codes "B7 fast"
cause_text causes.Unknown = codes "B8 unknown"
cause_text causes.Size = codes "B9 size"
cause_text causes.Frame = codes "B10 frame"
cause_text causes.Time = codes "B11 time"
cause_text causes.Address = codes "B12 address"

-- `line 3 bad B6 data`, of the number of a line and its cause
unfoldable pub bad_text : ℕ → BadCause → List ℕ
bad_text number cause = codes "line " ++ decimal number ++ codes " bad " ++ cause_text cause ++ codes "\n"

-- `line 3 broken pgn 130820 src 5 dst 255 seq 3 first 1`, of the number of a line and the group that it breaks
unfoldable pub broken_text : ℕ → Broken → List ℕ
broken_text number group =
    codes "line " ++ decimal number ++ codes " broken pgn " ++ decimal group.pgn ++ codes " src " ++ decimal group.src
    ++ codes " dst " ++ decimal group.dst ++ codes " seq " ++ decimal group.seq ++ codes " first "
    ++ decimal group.first ++ codes "\n"

-- the reports of a line: first the groups that it breaks, then its cause
abbrev pub cause_report : ℕ → Option BadCause → List ℕ
cause_report number None = []
cause_report number (Some cause) = bad_text number cause

abbrev pub line_report : ℕ → List Broken → Option BadCause → List ℕ
line_report number groups cause = flat_map (broken_text number) groups ++ cause_report number cause

-- `lines 3 messages 1 bad 0 unknown 0 broken 0 open 0`
unfoldable pub summary_text : Counts → List ℕ
summary_text counts =
    codes "lines " ++ decimal counts.lines ++ codes " messages " ++ decimal counts.messages ++ codes " bad "
    ++ decimal counts.bad ++ codes " unknown " ++ decimal counts.unknown ++ codes " broken "
    ++ decimal counts.broken ++ codes " open " ++ decimal counts.held ++ codes "\n"

-- the report of the entry of that line by itself
abbrev pub bad_report : ℕ → Entry → List ℕ
bad_report number (Bad cause) = bad_text number cause
bad_report number _ = []

-- the reports of bad lines among these entries; the first entry is line `first`
abbrev pub bad_reports_from : ℕ → List Entry → List ℕ
bad_reports_from first entries = flat_map (λ numbered. bad_report numbered.0 numbered.1) (enumerate_from first entries)
