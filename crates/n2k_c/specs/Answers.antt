-- What the calls of C answer.
use Rattle.std.specs.Prelude.{◌≡◌, ◌⊎◌, ◌<◌, ◌≤◌, ◌+◌, ◌==◌, ◌&&◌, nat_le, nat_lt, ℕ, Bool, true, false, if◌then◌else◌}
use Rattle.std.specs.Prelude.{List, [], ◌∷◌, ◌++◌, length, Option, Some, None, IsSome, Err, take, drop, replicate}
use Rattle.std.specs.List.{Contains}
use Rattle.std.specs.Str.{bytes_eq}
use Rattle.n2k_wire.specs.declared.entry.Packing.TheVariants as packed
use Rattle.n2k_table.specs.Table.{TableParts, faults, table}
use Rattle.n2k_join.specs.Counts.{most_lines}
use Rattle.n2k_join.specs.Window.{IsWindow}
use Rattle.n2k_join.specs.declared.counts.Counts.{Counts}
use Rattle.n2k_run.specs.declared.options.Options.{Options}
use Rattle.n2k_run.specs.Decoded.{out, reports}
use Rattle.n2k_run.specs.Headline.{save}
use Rattle.n2k_run.specs.Lines.{lines}
use Rattle.n2k_run.specs.Parts.{IsPrefix, begun}
use Rattle.n2k_run.specs.Reading.{most_reads}
use Rattle.n2k_c.specs.Frame.{frame_line, is_frame}
use Rattle.n2k_c.specs.Job.{AreCounts, AreReports, IsDecoding, IsOutput, Job, decoding, encoding}
use Rattle.n2k_c.specs.Queue.{IsNextLine}
use Rattle.n2k_c.specs.declared.Counted.{Counted}
use Rattle.n2k_c.specs.declared.Settings.{Settings}
use Rattle.n2k_c.specs.declared.decoder.Decoder.{Decoder}
use Rattle.n2k_c.specs.declared.refusal.Refusal.{Refusal}
use Rattle.n2k_c.specs.declared.refusal.Refusal.TheVariants.{Room, Memory, Window, TooMuch, Closed, Open, Ended}
use Rattle.n2k_c.specs.declared.refusal.Refusal.TheVariants.{Reserved, Frame, Unfinished, Encoder}
use Rattle.n2k_c.specs.declared.refusal.Refusal.TheVariants.{Table, State}
use Rattle.n2k_c.specs.Stands.{Stands, is_encoder, taken_of}

-- ---- n2k_open

-- the options that the settings name
abbrev pub settings_options : Settings → Options
settings_options settings = record {
  packing = if settings.whole then packed.Whole else packed.Frames;
  empty = settings.empty;
  window = record { lines = settings.window; in_order = settings.in_order };
}

-- whether they have no option that a later version may give
abbrev pub are_known : Settings → Bool
are_known settings = nat_le settings.encode 2 && bytes_eq settings.reserved (replicate 24 0)

-- whether they ask for an encoder, and for one that takes the nearest numbers
abbrev pub asks_encoder : Settings → Bool
asks_encoder settings = nat_lt 0 settings.encode

abbrev pub asks_nearest : Settings → Bool
asks_nearest settings = settings.encode == 2

-- the state that is handed in, if any
abbrev pub handed_of : Bool → List ℕ → Option (List ℕ)
handed_of resumes state = if resumes then Some state else None

-- A decoder with a table. It continues after each prefix of a log whose saved state was handed in, and without a state
-- before the first line; nothing of it waits.
pub record IsDecoderOf (t : TableParts) (settings : Settings) (handed : Option (List ℕ)) (d : Decoder) : Type 0 where
  pub known : are_known settings ≡ true
  pub begins : handed ≡ None → Stands t (decoding (settings_options settings)) [] false [] [] d
  pub goes_on : (prefix : List ℕ) → IsPrefix t (settings_options settings) prefix handed
      → Stands t (decoding (settings_options settings)) prefix false
      (out t (settings_options settings) prefix) (reports t (settings_options settings) prefix) d

-- An encoder with a table, before the first line. No state was handed in.
pub record IsEncoderOf (t : TableParts) (settings : Settings) (handed : Option (List ℕ)) (d : Decoder) : Type 0 where
  pub known : are_known settings ≡ true
  pub no_state : handed ≡ None
  pub begins : Stands t (encoding (asks_nearest settings)) [] false [] [] d

-- what the settings ask for: an encoder, or a decoder
abbrev pub IsMadeBy : Bool → TableParts → Settings → Option (List ℕ) → Decoder → Type 0
IsMadeBy true t settings handed d = IsEncoderOf t settings handed d
IsMadeBy false t settings handed d = IsDecoderOf t settings handed d

-- none was open, and such a decoder or encoder is
pub record OpensWith (t : TableParts) (settings : Settings) (handed : Option (List ℕ))
    (old new : Option Decoder) : Type 0 where
  pub decoder : Decoder
  pub was : old ≡ None
  pub is : new ≡ Some decoder
  pub made : IsMadeBy (asks_encoder settings) t settings handed decoder

-- Why there is none. Window and state are refused to a decoder only.
abbrev pub NotMade : TableParts → Settings → Option (List ℕ) → Refusal → Type 0
NotMade t settings handed Window = (asks_encoder settings ≡ false) × (IsWindow settings.window → ⊥)
NotMade t settings handed Reserved = are_known settings ≡ false
NotMade t settings handed (State fault) =
    (asks_encoder settings ≡ false) × (begun t (settings_options settings) handed ≡ Err fault)
NotMade t settings handed Encoder = (asks_encoder settings ≡ true) × IsSome handed
NotMade t settings handed Memory = Unit {0}
NotMade t settings handed _ = ⊥

-- why none was opened: one is open, and stays so, or there is none
abbrev pub NotOpenedWith : TableParts → Settings → Option (List ℕ) → Option Decoder → Option Decoder → Refusal → Type 0
NotOpenedWith t settings handed old new Open = IsSome old × (new ≡ old)
NotOpenedWith t settings handed old new refusal = (new ≡ old) × NotMade t settings handed refusal

-- one is opened with the table that the bytes spell, which have no fault
abbrev pub OpensDecoder : List ℕ → Settings → Option (List ℕ) → Option Decoder → Option Decoder → Type 0
OpensDecoder toml settings handed old new = (faults toml ≡ []) × OpensWith (table toml) settings handed old new

-- why none was opened with these bytes: they have a fault, or none was opened with the table that they spell
abbrev pub NotOpened : List ℕ → Settings → Option (List ℕ) → Option Decoder → Option Decoder → Refusal → Type 0
NotOpened toml settings handed old new (Table fault) = (new ≡ old) × Contains (faults toml) fault
NotOpened toml settings handed old new refusal = NotOpenedWith (table toml) settings handed old new refusal

-- ---- n2k_open_sharing

-- one is open, and this is its table
pub record HasTable (other : Option Decoder) (t : TableParts) : Type 0 where
  pub decoder : Decoder
  pub is : other ≡ Some decoder
  pub table : decoder.table.value ≡ t

-- one is open, and another was opened with its table, as n2k_open opens one
abbrev pub OpensSharing : Option Decoder → Settings → Option (List ℕ) → Option Decoder → Option Decoder → Type 0
OpensSharing other settings handed old new =
    IsSome other × ((t : TableParts) → HasTable other t → OpensWith t settings handed old new)

-- why none was opened: none has a table to share, or none was opened with that table
abbrev pub NotOpenedSharing : Option Decoder → Settings → Option (List ℕ) → Option Decoder → Option Decoder → Refusal
    → Type 0
NotOpenedSharing other settings handed old new Closed = (other ≡ None) × (new ≡ old)
NotOpenedSharing other settings handed old new refusal =
    IsSome other × ((t : TableParts) → HasTable other t → NotOpenedWith t settings handed old new refusal)

-- ---- calls of a decoder or an encoder: `Decoder` is either

-- one was open and is so, and what became of it
pub record Updates (old new : Option Decoder) (How : Decoder → Decoder → Type 0) : Type 0 where
  pub from : Decoder
  pub to : Decoder
  pub was : old ≡ Some from
  pub is : new ≡ Some to
  pub how : How from to

-- none was open, and none is
abbrev pub IsClosed : Option Decoder → Option Decoder → Type 0
IsClosed old new = (old ≡ None) × (new ≡ None)

-- ---- n2k_feed and n2k_end

-- these bytes of the log were fed, and nothing was printed or reported of it
abbrev pub Feeds : List ℕ → Decoder → Decoder → Type 0
Feeds bytes old new =
    (t : TableParts) (job : Job) (fed printed reported : List ℕ) → Stands t job fed false printed reported old
    → Stands t job (fed ++ bytes) false printed reported new

-- the log has ended, and nothing was printed or reported of it
abbrev pub EndsLog : Decoder → Decoder → Type 0
EndsLog old new =
    (t : TableParts) (job : Job) (fed printed reported : List ℕ) → Stands t job fed false printed reported old
    → Stands t job fed true printed reported new

-- The log has more lines than are counted, or for a decoder these bytes and the line that waits are so many that 10^12
-- reads may find no end.
abbrev pub IsTooMuch : List ℕ → Decoder → Type 0
IsTooMuch bytes d =
    (t : TableParts) (job : Job) (fed printed reported : List ℕ) → Stands t job fed false printed reported d
    → (most_lines < length (lines (fed ++ bytes)))
    ⊎ (IsDecoding job × (most_reads ≤ length d.cut.items + length bytes + 1))

-- why a decoder did not take these bytes, and is spent
abbrev pub ClosesDecoder : List ℕ → Decoder → Refusal → Type 0
ClosesDecoder bytes d Memory = Unit {0}
ClosesDecoder bytes d TooMuch = IsTooMuch bytes d
ClosesDecoder bytes d _ = ⊥

-- why no bytes are taken: none is open, or its log has ended, and it is as it was
abbrev pub IsNotUnderWay : Option Decoder → Option Decoder → Refusal → Type 0
IsNotUnderWay old new Closed = IsClosed old new
IsNotUnderWay old new Ended = Updates old new (λ from to. (to ≡ from) × (from.ended ≡ true))
IsNotUnderWay old new _ = ⊥

-- why they were not taken: so, or the decoder was spent, and none is open
abbrev pub NotTaken : List ℕ → Option Decoder → Option Decoder → Refusal → Type 0
NotTaken bytes old new refusal =
    IsNotUnderWay old new refusal ⊎ ((d : Decoder) × (old ≡ Some d) × (new ≡ None) × ClosesDecoder bytes d refusal)

-- ---- n2k_frame

-- so many of the bytes fed belong to no line that was taken
abbrev pub Waits : ℕ → Decoder → Type 0
Waits size d =
    (t : TableParts) (job : Job) (fed : List ℕ) (ended : Bool) (printed reported : List ℕ)
    → Stands t job fed ended printed reported d → length fed ≡ length (taken_of ended fed) + size

-- the frame's candump line was fed to a decoder, and no unfinished line was waiting
abbrev pub FeedsFrame : ℕ → List ℕ → ℕ → ℕ → Decoder → Decoder → Type 0
FeedsFrame identifier payload seconds nanoseconds old new =
    (is_encoder old.work ≡ false) × Waits 0 old × Feeds (frame_line identifier payload seconds nanoseconds) old new

-- an encoder is open, and is as it was
abbrev pub IsOfEncoder : Option Decoder → Option Decoder → Type 0
IsOfEncoder old new = Updates old new (λ from to. (to ≡ from) × (is_encoder from.work ≡ true))

-- Why a frame was not taken: it is not valid, an encoder is open, or an unfinished line is waiting, and then nothing has
-- changed; or its candump line was not taken.
abbrev pub NotFramed : ℕ → List ℕ → ℕ → ℕ → Option Decoder → Option Decoder → Refusal → Type 0
NotFramed identifier payload seconds nanoseconds old new refusal =
    ((refusal ≡ Frame) × (is_frame identifier payload seconds nanoseconds ≡ false) × (new ≡ old))
    ⊎ (((refusal ≡ Encoder) × IsOfEncoder old new)
    ⊎ (((refusal ≡ Unfinished) × Updates old new (λ from to. (to ≡ from) × (size : ℕ) × (0 < size) × Waits size from))
    ⊎ NotTaken (frame_line identifier payload seconds nanoseconds) old new refusal))

-- ---- n2k_take, n2k_next, n2k_take_reports, n2k_counts and n2k_save

-- this text waited: with what was printed before it is the whole output of the bytes that were taken
abbrev pub Prints : List ℕ → Decoder → Decoder → Type 0
Prints text old new =
    (t : TableParts) (job : Job) (fed : List ℕ) (ended : Bool) (printed reported : List ℕ)
    → Stands t job fed ended printed reported old
    → IsOutput t job (taken_of ended fed) (printed ++ text) × Stands t job fed ended (printed ++ text) reported new

-- this text is the next line of the output, after what was printed before it; it is empty if all was printed
abbrev pub PrintsNext : List ℕ → Decoder → Decoder → Type 0
PrintsNext text old new =
    (t : TableParts) (job : Job) (fed : List ℕ) (ended : Bool) (printed reported : List ℕ)
    → Stands t job fed ended printed reported old
    → ((all : List ℕ) × IsOutput t job (taken_of ended fed) all × IsNextLine all printed text)
    × Stands t job fed ended (printed ++ text) reported new

-- so for the reports
abbrev pub TakesReports : List ℕ → Decoder → Decoder → Type 0
TakesReports text old new =
    (t : TableParts) (job : Job) (fed : List ℕ) (ended : Bool) (printed reported : List ℕ)
    → Stands t job fed ended printed reported old
    → AreReports t job (taken_of ended fed) (reported ++ text) × Stands t job fed ended printed (reported ++ text) new

-- the counts as C has them
abbrev pub counted_of : Counts → Counted
counted_of c = record {
  lines = c.lines;
  messages = c.messages;
  bad = c.bad;
  unknown = c.unknown;
  broken = c.broken;
  held = c.held;
  reserved = 0 ∷ 0 ∷ [];
}

-- the counts of the bytes that were taken
abbrev pub HasCounts : Counts → Decoder → Type 0
HasCounts counted d =
    (t : TableParts) (job : Job) (fed : List ℕ) (ended : Bool) (printed reported : List ℕ)
    → Stands t job fed ended printed reported d
    → AreCounts t job (taken_of ended fed) counted

-- these, as C has them
abbrev pub IsCounted : Counted → Decoder → Type 0
IsCounted counted d = (c : Counts) × HasCounts c d × (counted ≡ counted_of c)

-- a decoder is open, and this is what is saved of the bytes that were taken
pub record IsStateOf (text : List ℕ) (d : Decoder) : Type 0 where
  pub decodes : is_encoder d.work ≡ false
  pub is : (t : TableParts) (o : Options) (fed : List ℕ) (ended : Bool) (printed reported : List ℕ)
      → Stands t (decoding o) fed ended printed reported d → text ≡ save t o (taken_of ended fed)

-- At the beginning of a room a text of so many bytes was written, and nothing after it.
pub record Fills (room_old room_new : List ℕ) (told : ℕ) : Type 0 where
  pub fits : told ≤ length room_new
  pub after : drop told room_new ≡ drop told room_old

-- A text came to the beginning of a room, and its length was returned.
pub record HasRoom (text room_old room_new : List ℕ) (told : ℕ) : Type 0 where
  pub size : told ≡ length text
  pub prefix : take told room_new ≡ text
  pub fills : Fills room_old room_new told

-- a text did not fit: the room is unchanged, and the text's size was returned
pub record WantsRoom (text room_old room_new : List ℕ) (wanted : ℕ) : Type 0 where
  pub told : wanted ≡ length text
  pub too_small : length room_old < wanted
  pub unchanged : room_new ≡ room_old

-- a room, and the size that is returned
abbrev pub Sized : Type 0
Sized = List ℕ × ℕ

-- why what waited was not taken; nothing of it is lost, and without a decoder nothing is written
abbrev pub NotMoved : (Decoder → List ℕ) → Sized → Sized → Option Decoder → Option Decoder → Refusal → Type 0
NotMoved waiting was is old new Closed = IsClosed old new × (is ≡ was)
NotMoved waiting was is old new Room =
    Updates old new (λ from to. (to ≡ from) × WantsRoom (waiting from) was.0 is.0 is.1)
NotMoved waiting was is old new _ = ⊥

-- why a state did not come into a room
abbrev pub NotSavedInto : Sized → Sized → Decoder → Refusal → Type 0
NotSavedInto was is d Memory = is ≡ was
NotSavedInto was is d Encoder = (is_encoder d.work ≡ true) × (is ≡ was)
NotSavedInto was is d Room = (text : List ℕ) × IsStateOf text d × WantsRoom text was.0 is.0 is.1
NotSavedInto was is d _ = ⊥

-- why nothing was saved; what is open is as it was
abbrev pub NotSaved : Sized → Sized → Option Decoder → Option Decoder → Refusal → Type 0
NotSaved was is old new Closed = IsClosed old new × (is ≡ was)
NotSaved was is old new refusal = Updates old new (λ from to. (to ≡ from) × NotSavedInto was is from refusal)

-- why nothing was returned: none is open, and the room is unchanged
abbrev pub NotTold : (A : Type 0) → A → A → Option Decoder → Option Decoder → Refusal → Type 0
NotTold A was is old new Closed = IsClosed old new × (is ≡ was)
NotTold A was is old new _ = ⊥
