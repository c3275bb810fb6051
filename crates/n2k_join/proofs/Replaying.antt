-- A log over which messages are scattered, and which gives no other, gives these messages.
use Rattle.std.proofs.Common.{◌≡◌, ℕ, zero, suc, ◌+◌, ◌<◌, Bool, false, List, [], ◌∷◌, ◌++◌, length, refl, ap, ◌∙◌, arith, Option, Some, None, inr, ◌==◌, ◌⊎◌, if◌then◌else◌, filter, filter_map, map, option_map, option_and_then, slice_get}
use Rattle.std.specs.Option.{option_or}
use Rattle.std.specs.List.{AllByRecursion, AllZip, range_with_len, cons_option}
use Rattle.std.proofs.lemmas.Bool.{eq-eqb, ne_eqb, eqb-true, cases_eq}
use Rattle.std.proofs.lemmas.List.Elements.{recursion_from_All}
use Rattle.std.proofs.lemmas.List.{length-map}
use Rattle.n2k_join.proofs.Logs.{frames-below}
use Rattle.n2k_wire.specs.Packet.{PacketParts}
use Rattle.n2k_wire.specs.declared.entry.Entry.{Entry}
use Rattle.n2k_table.specs.declared.definition.Kind.{Kind}
use Rattle.n2k_join.specs.Frames.{Key, same_key, Frame, frames, of_key, frame_at}
use Rattle.n2k_join.specs.Groups.{EndTest, within, cut, last_line}
use Rattle.n2k_join.specs.Messages.{Keyed, message_of, gathered_by, gathered, alone, message, numbers}
use Rattle.n2k_join.specs.Pieces.{Sending, sendings, sendings_after}
use Rattle.n2k_join.specs.Scattered.{key_of_sending, all_frames, sendings_of, IsScattered, IsMute}
use Rattle.n2k_join.specs.Replay.{messages, gathered_messages, given_to, sent_to, Replays}
use Rattle.n2k_join.proofs.Keys.{same_key-true, same_key-refl}
use Rattle.n2k_join.proofs.KeyCounts.{same_length}
use Rattle.n2k_join.proofs.Rising.{find-passes, find-all, find-none, filter_map-range, all-map, filter_map-none}
use Rattle.n2k_join.proofs.Lines.{RiseFrom}
use Rattle.n2k_join.proofs.GroupLines.{IsGroup, rise-after, last_frame, lasts_above}
use Rattle.n2k_join.proofs.Arriving.{Comes, gathers, Settled, settles, zip-map, zip-all}
use Rattle.n2k_join.specs.Window.{Window}
use Rattle.n2k_join.specs.State.{Rise}
use Rattle.n2k_join.proofs.Carried.{option_or_none}

-- the sending whose group's last frame is at the line
unfoldable at_line : List Sending → List (List Frame) → ℕ → Option Sending
at_line [] gs line = None
at_line (x ∷ xs) [] line = None
at_line (x ∷ xs) (g ∷ gs) line = if last_line g == line then Some x else at_line xs gs line

at_line-before : (n line : ℕ) (xs : List Sending) (gs : List (List Frame)) → Rise last_line n gs → line < n → at_line xs gs line ≡ None
unfolding at_line
at_line-before n line [] gs rise before = refl
at_line-before n line (x ∷ xs) [] rise before = refl
at_line-before n line (x ∷ xs) (g ∷ gs) rise before = rw (ne_eqb (last_line g) line (λ same. omega arith)) (at_line-before (last_line g + 1) line xs gs rise.1 (omega arith))

-- read off line by line, the sendings come in their order
read_off : (R : Sending → List Frame → Type 0) (n count : ℕ) (xs : List Sending) (gs : List (List Frame)) → AllZip R xs gs → Rise last_line n gs → AllByRecursion (λ g. last_line g < n + count) gs → filter_map (at_line xs gs) (range_with_len n count) ≡ xs
unfolding at_line
read_off R n count [] [] each rise within = filter_map-none (at_line [] []) (λ line. refl) (range_with_len n count)
read_off R n count [] (g ∷ gs) each rise within = absurd each
read_off R n count (x ∷ xs) [] each rise within = absurd each
read_off R n zero (x ∷ xs) (g ∷ gs) each rise within = absurd (omega (arith, rise.0, within.0))
read_off R n (suc count) (x ∷ xs) (g ∷ gs) each rise within = by_place (cases_eq (last_line g) n) (λ l. read_off R (n + 1) count xs gs each.1 l) (λ l. read_off R (n + 1) count (x ∷ xs) (g ∷ gs) each l)
  where
    shifted : (hs : List (List Frame)) → AllByRecursion (λ h. last_line h < n + suc count) hs → AllByRecursion (λ h. last_line h < (n + 1) + count) hs
    shifted hs all = all-map _ (λ h. last_line h < (n + 1) + count) hs (λ h l. omega arith) all

    by_place : (last_line g ≡ n) ⊎ (last_line g ≡ n → ⊥)
        → (Rise last_line (n + 1) gs → AllByRecursion (λ h. last_line h < (n + 1) + count) gs → filter_map (at_line xs gs) (range_with_len (n + 1) count) ≡ xs)
        → (Rise last_line (n + 1) (g ∷ gs) → AllByRecursion (λ h. last_line h < (n + 1) + count) (g ∷ gs) → filter_map (at_line (x ∷ xs) (g ∷ gs)) (range_with_len (n + 1) count) ≡ x ∷ xs)
        → cons_option (at_line (x ∷ xs) (g ∷ gs) n) (filter_map (at_line (x ∷ xs) (g ∷ gs)) (range_with_len (n + 1) count)) ≡ x ∷ xs
    by_place h next again = grind (arith, filter_map-range, eq-eqb, shifted, at_line-before)

-- a message under a key
abbrev keyed : Key → Sending → Keyed
keyed k x = record { key = k; message = x.message }

-- the message, if it has the key
abbrev kept : Key → Option Keyed → Option Keyed
kept k o = option_and_then (λ (m : Keyed). if same_key k m.key then Some m else None) o

-- either a sending is gathered at the line, or no group of its key ends there
abbrev AtLine : (ℕ → Option Keyed) → Key → List Sending → List (List Frame) → ℕ → Type 0
AtLine gives k xs gs line = ((x : Sending) × (at_line xs gs line ≡ Some x) × (gives line ≡ Some (keyed k x))) ⊎ ((at_line xs gs line ≡ None) × AllByRecursion (λ g. (last_line g == line) ≡ false) gs)

at_line-cases : (gives : ℕ → Option Keyed) (k : Key) (xs : List Sending) (gs : List (List Frame)) (line : ℕ) → AllZip (λ x g. gives (last_line g) ≡ Some (keyed k x)) xs gs → AtLine gives k xs gs line
unfolding at_line
at_line-cases gives k [] [] line each = inr (refl, tt)
at_line-cases gives k [] (g ∷ gs) line each = absurd each
at_line-cases gives k (x ∷ xs) [] line each = absurd each
at_line-cases gives k (x ∷ xs) (g ∷ gs) line each = grind (arith, at_line-cases gives k xs gs line each.1, cases_eq, eq-eqb, ne_eqb)

-- the message that a frame gathers of the group that it completes
abbrev made : Frame → Option (List Frame) → Option Keyed
made f o = option_map (λ group. record { key = f.key; message = message_of f group }) o

-- if no group of the key ends at the line, the line gathers nothing of the key
none_of_key : (ends : EndTest) (fs : List Frame) (k : Key) (gs : List (List Frame)) (line : ℕ) → cut ends (of_key k fs) ≡ gs → AllByRecursion (λ g. (last_line g == line) ≡ false) gs → kept k (gathered ends fs line) ≡ None
unfolding gathered
none_of_key ends fs k gs line cut_is none = by_frame (frame_at line fs) refl
  where
    other_key : (f : Frame) → same_key k f.key ≡ false → (o : Option (List Frame)) → kept k (made f o) ≡ None
    other_key f other o = grind arith

    of_frame : (f : Frame) → frame_at line fs ≡ Some f → (b : Bool) → same_key k f.key ≡ b → kept k (gathered_by ends fs f) ≡ None
    of_frame f e b same = grind (arith, eqb-true, find-passes, all-map, same_key-true, find-none, other_key)

    by_frame : (o : Option Frame) → frame_at line fs ≡ o → kept k (option_and_then (gathered_by ends fs) o) ≡ None
    by_frame o e = grind (arith, of_frame)

filter-filter_map : {X : Type 0} (k : Key) (h : X → Option Keyed) (xs : List X) → filter (λ (m : Keyed). same_key k m.key) (filter_map h xs) ≡ filter_map (λ x. kept k (h x)) xs
filter-filter_map k h [] = refl
filter-filter_map k h (x ∷ xs) = grind (arith, filter-filter_map k h xs)

map-filter_map : {X Y Z : Type 0} (g : Y → Z) (h : X → Option Y) (xs : List X) → map g (filter_map h xs) ≡ filter_map (λ x. option_map g (h x)) xs
map-filter_map g h [] = refl
map-filter_map {Y = Y} g h (x ∷ xs) = grind (arith, map-filter_map g h xs)

-- the lines of groups rise, and lie within the log
lasts_rise : (n : ℕ) (gs : List (List Frame)) → AllByRecursion IsGroup gs → RiseFrom n (all_frames gs) → Rise last_line n gs
lasts_rise n [] some rise = tt
lasts_rise n (g ∷ gs) some rise = grind (arith, lasts_rise (last_line g + 1) gs some.1 (rise-after n g (all_frames gs) some.0 rise), lasts_above n (g ∷ gs) some rise)

comes-within : (ends : EndTest) (kind : ℕ → Option Kind) (es : List Entry) (k : Key) (x : Sending) (g : List Frame) → Comes ends kind es k x g → last_line g < 1 + length es
comes-within ends kind es k x g comes = grind (arith, last_frame, find-all, frames-below)

-- a line gathers, of a key, the sending under the key that ends there
line_of_key : (ends : EndTest) (kind : ℕ → Option Kind) (ms : List PacketParts) (es : List Entry) (k : Key) (at : Settled ends kind ms es k) (i : ℕ) → kept k (gathered ends (frames kind es) i) ≡ option_map (keyed k) (at_line (sendings_of k ms) at.groups i)
line_of_key ends kind ms es k at i = by_line (at_line-cases (gathered ends (frames kind es)) k (sendings_of k ms) at.groups i (zip-map (Comes ends kind es k) _ (gathers ends kind es k) (sendings_of k ms) at.groups at.each))
  where
    own : (x : Sending) → kept k (Some (keyed k x)) ≡ Some (keyed k x)
    own x = rw (same_key-refl k) refl

    by_line : AtLine (gathered ends (frames kind es)) k (sendings_of k ms) at.groups i → kept k (gathered ends (frames kind es) i) ≡ option_map (keyed k) (at_line (sendings_of k ms) at.groups i)
    by_line h = grind (arith, own, none_of_key)

-- the groups of a key give the messages that were sent under it, in order
pub gathered_of_key : (ends : EndTest) (kind : ℕ → Option Kind) (ms : List PacketParts) (es : List Entry) (k : Key) → Settled ends kind ms es k → filter (λ (m : Keyed). same_key k m.key) (filter_map (gathered ends (frames kind es)) (numbers es)) ≡ map (keyed k) (sendings_of k ms)
gathered_of_key ends kind ms es k at = grind (arith, zip-all (Comes ends kind es k) (λ g. last_line g < 1 + length es) (comes-within ends kind es k) (sendings_of k ms) at.groups at.each, filter-filter_map k (gathered ends (frames kind es)) (numbers es), map-filter_map (keyed k) (at_line (sendings_of k ms) at.groups) (numbers es), lasts_rise 1 at.groups at.nonempty at.rise, line_of_key, read_off)

messages-keyed : (k : Key) (xs : List Sending) → map (λ (m : Keyed). m.message) (map (keyed k) xs) ≡ map (λ (x : Sending). x.message) xs
messages-keyed k [] = refl
messages-keyed k (x ∷ xs) = ap (λ l. x.message ∷ l) (messages-keyed k xs)

pub gives_in_order : (w : Window) (kind : ℕ → Option Kind) (ms : List PacketParts) (es : List Entry) → IsScattered w kind ms es → (k : Key) → given_to k w kind es ≡ sent_to k ms
gives_in_order w kind ms es scattered k = ap (map (λ (m : Keyed). m.message)) (gathered_of_key (within w) kind ms es k (settles w kind ms es scattered k)) ∙ messages-keyed k (sendings_of k ms)

-- if no entry gives a message alone, every message is a group's
entry-mute : (kind : ℕ → Option Kind) (es : List Entry) (i : ℕ) → AllByRecursion (λ (e : Entry). alone kind e ≡ None) es → option_and_then (alone kind) (slice_get es i) ≡ None
entry-mute kind [] i mute = refl
entry-mute kind (e ∷ es) zero mute = mute.0
entry-mute kind (e ∷ es) (suc i) mute = entry-mute kind es i mute.1

line-mute : (w : Window) (kind : ℕ → Option Kind) (es : List Entry) (i : ℕ) → AllByRecursion (λ (e : Entry). alone kind e ≡ None) es → message w kind es i ≡ option_map (λ (m : Keyed). m.message) (gathered (within w) (frames kind es) i)
line-mute w kind es zero mute = option_or_none _
line-mute w kind es (suc i) mute = ap (option_or (option_map (λ (m : Keyed). m.message) (gathered (within w) (frames kind es) (suc i)))) (entry-mute kind es i mute) ∙ option_or_none _

pub by_groups : (w : Window) (kind : ℕ → Option Kind) (es : List Entry) → IsMute kind es → messages w kind es ≡ map (λ (m : Keyed). m.message) (gathered_messages w kind es)
by_groups w kind es mute = grind (arith, line-mute, recursion_from_All, map-filter_map)

length-sendings : (earlier ms : List PacketParts) → length (sendings_after earlier ms) ≡ length ms
length-sendings earlier [] = refl
length-sendings earlier (m ∷ ms) = ap suc (length-sendings (earlier ++ m ∷ []) ms)

-- as many messages are gathered as were sent
pub gathers_all : (w : Window) (kind : ℕ → Option Kind) (ms : List PacketParts) (es : List Entry) → IsScattered w kind ms es → length (gathered_messages w kind es) ≡ length ms
gathers_all w kind ms es scattered =
    same_length (λ (m : Keyed). m.key) key_of_sending (length (gathered_messages w kind es)) (gathered_messages w kind es) (sendings ms) (omega arith)
    (λ k. ap length (gathered_of_key (within w) kind ms es k (settles w kind ms es scattered k)) ∙ length-map (sendings_of k ms) (keyed k))
    ∙ length-sendings [] ms

pub replays : (w : Window) (kind : ℕ → Option Kind) (ms : List PacketParts) (es : List Entry) → IsScattered w kind ms es → IsMute kind es → Replays w kind ms es
replays w kind ms es scattered mute = grind (arith, by_groups, length-map, gathers_all, gives_in_order)
