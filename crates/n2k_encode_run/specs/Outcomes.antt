-- The outcome of each line of JSON, and its text, report and count. The rules are those of docs/PROFILE.md.
use Rattle.std.specs.Prelude.{◌≡◌, ◌⊎◌, ◌<◌, ◌≤◌, ◌+◌, ℕ, Bool, true, false, List, [], ◌∷◌, ◌++◌, length, codes, decimal}
use Rattle.std.specs.List.{flat_map}
use Rattle.n2k_wire.specs.Entry.{is_skipped}
use Rattle.n2k_wire.specs.Packet.{PacketParts}
use Rattle.n2k_wire.specs.Texts.{plain_text}
use Rattle.n2k_table.specs.Table.{TableParts}
use Rattle.n2k_table.specs.Text.{text_json}
use Rattle.n2k_join.specs.declared.counts.Counts.{Counts}
use Rattle.n2k_encode.specs.Encoded.{IsEncodedLine, IsLineCause, longest_request}
use Rattle.n2k_encode.specs.Refusal.{CauseParts, long, not_json, member, unknown, address, description, field, value, size, none_shows}

-- the outcome of a line: skipped, a message, or a refusal
pub data Outcome : Type 0 where
  skipped : Outcome
  encoded : PacketParts → Outcome
  refused : CauseParts → Outcome

-- A line has this outcome with a table. An empty line or one that begins with `#` is skipped, unless it is too long.
abbrev pub Gives : TableParts → Bool → List ℕ → Outcome → Type 0
Gives t nearest line skipped = (length line ≤ longest_request) × (is_skipped line ≡ true)
Gives t nearest line (encoded p) =
    (length line ≤ longest_request) × (is_skipped line ≡ false) × IsEncodedLine t nearest line p
Gives t nearest line (refused c) =
    ((longest_request < length line) × (c ≡ long))
    ⊎ ((length line ≤ longest_request) × (is_skipped line ≡ false) × IsLineCause t nearest line c)

-- each of these lines has its outcome
abbrev pub GiveAll : TableParts → Bool → List (List ℕ) → List Outcome → Type 0
GiveAll t nearest [] [] = Unit {0}
GiveAll t nearest (line ∷ lines) (o ∷ os) = Gives t nearest line o × GiveAll t nearest lines os
GiveAll t nearest _ _ = ⊥

-- a message is printed as its plain line
abbrev pub text_of : Outcome → List ℕ
text_of skipped = []
text_of (encoded p) = plain_text p
text_of (refused c) = []

abbrev pub texts : List Outcome → List ℕ
texts os = flat_map text_of os

-- a cause's number and word
abbrev pub cause_text : CauseParts → List ℕ
cause_text long = codes "B1 long"
cause_text not_json = codes "B13 json"
cause_text member = codes "B14 member"
cause_text unknown = codes "B8 unknown"
cause_text address = codes "B12 address"
cause_text description = codes "B15 description"
cause_text (field name) = codes "B16 field"
cause_text (value name) = codes "B17 value"
cause_text size = codes "B9 size"
cause_text (none_shows name) = codes "B18 data"

-- the name of the field as a JSON string after a space, for a cause that has one
abbrev pub name_text : CauseParts → List ℕ
name_text long = []
name_text not_json = []
name_text member = []
name_text unknown = []
name_text address = []
name_text description = []
name_text (field name) = codes " " ++ text_json name
name_text (value name) = codes " " ++ text_json name
name_text size = []
name_text (none_shows name) = codes " " ++ text_json name

-- `line 3 bad B17 value "Depth"`, of the number of a line and its cause
unfoldable pub refused_text : ℕ → CauseParts → List ℕ
refused_text number c =
    codes "line " ++ decimal number ++ codes " bad " ++ cause_text c ++ name_text c ++ codes "\n"

-- the report of the line with this number
abbrev pub report_of : ℕ → Outcome → List ℕ
report_of number skipped = []
report_of number (encoded p) = []
report_of number (refused c) = refused_text number c

-- the reports of lines; the first line has this number
abbrev pub reports_from : ℕ → List Outcome → List ℕ
reports_from first [] = []
reports_from first (o ∷ os) = report_of first o ++ reports_from (first + 1) os

-- the counts after one more line
abbrev pub count_one : Counts → Outcome → Counts
count_one c skipped = record c { lines = c.lines + 1 }
count_one c (encoded p) = record c { lines = c.lines + 1; messages = c.messages + 1 }
count_one c (refused x) = record c { lines = c.lines + 1; bad = c.bad + 1 }

-- the counts after these lines
abbrev pub counts_after : Counts → List Outcome → Counts
counts_after c [] = c
counts_after c (o ∷ os) = counts_after (count_one c o) os

-- Lines, messages and bad lines. Skipped lines count as lines; there are no unknown PGNs and no groups.
abbrev pub counts_of : List Outcome → Counts
counts_of os = counts_after (record { lines = 0; messages = 0; bad = 0; unknown = 0; broken = 0; held = 0 }) os
