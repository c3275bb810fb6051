-- The frames of messages, written in order, are scattered frames of these messages.
use Rattle.std.proofs.Common.{◌≡◌, ℕ, zero, suc, ◌+◌, ◌*◌, ◌<◌, ◌≤◌, Bool, true, false, cond, List, [], ◌∷◌, ◌++◌, map, length, refl, ap, subst, ◌∙◌, sym, arith, Option, Some, None, flat_map, filter}
use Rattle.std.specs.List.{AllByRecursion, All, range_with_len}
use Rattle.std.proofs.lemmas.List.{map-append, length-map}
use Rattle.std.proofs.lemmas.List.FromFn.{length-map-range_with_len}
use Rattle.std.proofs.lemmas.List.Elements.{recursion_from_All, All-from_recursion}
use Rattle.n2k_wire.specs.declared.entry.Entry.{Entry}
use Rattle.n2k_wire.specs.declared.entry.Entry.TheVariants as entries
use Rattle.n2k_wire.specs.Entry.{IsEntry}
use Rattle.n2k_wire.specs.Packet.{PacketParts, IsPacketParts, longest_message}
use Rattle.n2k_table.specs.declared.definition.Kind.{Kind}
use Rattle.n2k_table.specs.declared.definition.Kind.TheVariants.{Fast}
use Rattle.n2k_join.specs.Frames.{Key, same_key, Frame, is_fast_payload, fast_frame, frames_from, of_key}
use Rattle.n2k_join.specs.Messages.{alone}
use Rattle.n2k_join.specs.Pieces.{sent_byte, piece_bytes, piece, last_piece, pieces_as, Sending, sendings, sendings_after, frames_of_sending, written}
use Rattle.n2k_join.specs.Scattered.{key_of_sending, IsPieceOf, IsStretchOf, IsStretchWithin, FallInto, IsScattered, as_entries, WrittenLog}
use Rattle.n2k_join.proofs.Keys.{of_key-append, of_key-all, of_key-none}
use Rattle.n2k_join.proofs.Rising.{all-map, all-append, rise-least}
use Rattle.n2k_join.proofs.PieceFrames.{given_frame, piece_says}
use Rattle.n2k_join.specs.Groups.{first}
use Rattle.n2k_join.proofs.GroupLines.{IsGroup, first_above}
use Rattle.n2k_join.proofs.Lines.{frames-rise, line_of}
use Rattle.n2k_join.proofs.Logs.{frames-below, frames_from-append}
use Rattle.n2k_join.proofs.Healing.{rising-apart, rising-length}
use Rattle.n2k_join.specs.Window.{Window}
use Rattle.n2k_join.proofs.Keeping.{AreBytes, filled}

-- a sending that a packet of the program and a sequence make
pub record IsSending (kind : ℕ → Option Kind) (x : Sending) : Type 0 where
  pub fast : kind x.message.id.pgn ≡ Some Fast
  pub packet : IsPacketParts x.message
  pub sequence : x.sequence < 8

-- a piece is a frame's data
fast_payload : (payload : List ℕ) (s n : ℕ) → length payload ≤ longest_message → n < 32 → is_fast_payload ((32 * s + n) ∷ piece_bytes payload n) ≡ true
unfolding piece_bytes
fast_payload payload s n fits small = grind arith

piece_frame : (x : Sending) (line n : ℕ) → length x.message.payload ≤ longest_message → n < 32 → fast_frame line (piece x.message x.sequence n) ≡ Some (given_frame x line n)
unfolding fast_frame
piece_frame x line n fits small = rw (fast_payload x.message.payload x.sequence n fits small) refl

-- the frames of pieces
pub record ComeInOrder (x : Sending) (first count : ℕ) (fs : List Frame) : Type 0 where
  pub each : AllByRecursion (IsPieceOf x) fs
  pub rising : map (λ (f : Frame). f.number) fs ≡ range_with_len first count

come_in_order : (kind : ℕ → Option Kind) (x : Sending) → IsSending kind x → (line first count : ℕ) → first + count ≤ last_piece x.message + 1 → ComeInOrder x first count (frames_from kind line (as_entries (map (piece x.message x.sequence) (range_with_len first count))))
come_in_order kind x can line first zero within = record { each = tt; rising = refl }
come_in_order kind x can line first (suc count) within = grind (arith, come_in_order kind x can (line + 1) (first + 1) count (omega arith), piece_frame)

-- the frames of a sending are its stretch
frames_at : (ℕ → Option Kind) → ℕ → Sending → List Frame
frames_at kind line x = frames_from kind line (as_entries (frames_of_sending kind x))

sending_stretch : (kind : ℕ → Option Kind) (line : ℕ) (x : Sending) → IsSending kind x → ComeInOrder x 0 (last_piece x.message + 1) (frames_at kind line x)
unfolding frames_at pieces_as
sending_stretch kind line x can = grind (arith, come_in_order)

-- of the frames of a sending all have its key
own_key : (kind : ℕ → Option Kind) (line : ℕ) (x : Sending) → IsSending kind x → (k : Key) (b : Bool) → same_key k (key_of_sending x) ≡ b → AllByRecursion (λ (f : Frame). same_key k f.key ≡ b) (frames_at kind line x)
own_key kind line x can k b e = all-map (IsPieceOf x) (λ (f : Frame). same_key k f.key ≡ b) (frames_at kind line x) (λ f is. ap (same_key k) (piece_says x f is).key ∙ e) (sending_stretch kind line x can).each

-- the frames of sendings, in order, fall into their stretches
sent_frames : (ℕ → Option Kind) → ℕ → List Sending → List Frame
sent_frames kind line xs = frames_from kind line (as_entries (flat_map (frames_of_sending kind) xs))

-- A sending has at most 32 frames, at consecutive lines: so the shortest window contains them.
short : (kind : ℕ → Option Kind) (x : Sending) → IsSending kind x → length (as_entries (frames_of_sending kind x)) ≤ 32
unfolding pieces_as
short kind x can = grind (arith, length-map, length-map-range_with_len)

in_time : (kind : ℕ → Option Kind) (w : Window) (line : ℕ) (x : Sending) → 32 ≤ w.lines → IsSending kind x → IsGroup (frames_at kind line x) → AllByRecursion (λ (f : Frame). f.line < first (frames_at kind line x) + w.lines) (frames_at kind line x)
unfolding frames_at
in_time kind w line x long can some =
    let es = as_entries (frames_of_sending kind x) in
    let from : line ≤ first (frames_from kind line es) = first_above line (frames_from kind line es) some (rise-least line_of line (frames_from kind line es) (frames-rise kind line es)) in
    all-map (λ (f : Frame). f.line < line + length es) (λ (f : Frame). f.line < first (frames_from kind line es) + w.lines) (frames_from kind line es) (λ f l. omega (arith, l, from, short kind x can, long)) (frames-below kind line es)

one_more : (w : Window) (k : Key) (x : Sending) (xs : List Sending) (g fs : List Frame) → IsStretchWithin w x g → FallInto w xs fs → FallInto w (x ∷ xs) (g ++ fs)
one_more w k x xs g fs is falls = record {
  stretches = g ∷ falls.stretches;
  one_after_the_other = ap (λ l. g ++ l) falls.one_after_the_other;
  each = (is, falls.each);
}

fall : (w : Window) → 32 ≤ w.lines → (kind : ℕ → Option Kind) (k : Key) (line : ℕ) (xs : List Sending) → AllByRecursion (IsSending kind) xs → FallInto w (filter (λ (x : Sending). same_key k (key_of_sending x)) xs) (of_key k (sent_frames kind line xs))
unfolding sent_frames frames_at
fall w long kind k line [] can = record { stretches = []; one_after_the_other = refl; each = tt }
fall w long kind k line (x ∷ xs) can =
    let mine = as_entries (frames_of_sending kind x) in
    let others = as_entries (flat_map (frames_of_sending kind) xs) in
    let parts : of_key k (sent_frames kind line (x ∷ xs)) ≡ of_key k (frames_at kind line x) ++ of_key k (sent_frames kind (line + length mine) xs) =
    ap (λ es. of_key k (frames_from kind line es)) (map-append (λ p. entries.Frame p) (frames_of_sending kind x) (flat_map (frames_of_sending kind) xs))
    ∙ (ap (of_key k) (frames_from-append kind line mine others)
    ∙ of_key-append k (frames_at kind line x) (sent_frames kind (line + length mine) xs)) in
    subst (FallInto w (filter (λ (y : Sending). same_key k (key_of_sending y)) (x ∷ xs))) (sym parts) (by_key (same_key k (key_of_sending x)) refl (fall w long kind k (line + length mine) xs can.1))
  where
    in_order : ComeInOrder x 0 (last_piece x.message + 1) (frames_at kind line x)
    in_order = sending_stretch kind line x can.0

    stretch : IsStretchOf x (frames_at kind line x)
    stretch = record {
      pieces = record { each = All-from_recursion (IsPieceOf x) (frames_at kind line x) in_order.each; apart = rising-apart 0 _ (frames_at kind line x) in_order.rising };
      whole = rising-length 0 _ (frames_at kind line x) in_order.rising;
    }

    some : IsGroup (frames_at kind line x)
    some = omega (arith, stretch.whole)

    by_key : (b : Bool) → same_key k (key_of_sending x) ≡ b → FallInto w (filter (λ (y : Sending). same_key k (key_of_sending y)) xs) (of_key k (sent_frames kind (line + length (as_entries (frames_of_sending kind x))) xs))
        → FallInto w (cond b (x ∷ filter (λ (y : Sending). same_key k (key_of_sending y)) xs) (filter (λ (y : Sending). same_key k (key_of_sending y)) xs)) (of_key k (frames_at kind line x) ++ of_key k (sent_frames kind (line + length (as_entries (frames_of_sending kind x))) xs))
    by_key true e falls = rw (of_key-all k (frames_at kind line x) (own_key kind line x can.0 k true e)) (one_more w k x _ (frames_at kind line x) _ (record { stretch = stretch; in_time = All-from_recursion (λ (f : Frame). f.line < first (frames_at kind line x) + w.lines) (frames_at kind line x) (in_time kind w line x long can.0 some); ordered = λ _. in_order.rising }) falls)
    by_key false e falls = rw (of_key-none k (frames_at kind line x) (own_key kind line x can.0 k false e)) falls

-- each message of a fast PGN is sent, under a sequence of three bits
are_sendings : (kind : ℕ → Option Kind) (earlier ms : List PacketParts) → AllByRecursion (λ (m : PacketParts). kind m.id.pgn ≡ Some Fast) ms → AllByRecursion IsPacketParts ms → AllByRecursion (IsSending kind) (sendings_after earlier ms)
are_sendings kind earlier [] fast are = tt
are_sendings kind earlier (m ∷ ms) fast are = (record { fast = fast.0; packet = are.0; sequence = omega arith }, are_sendings kind (earlier ++ m ∷ []) ms fast.1 are.1)

pub written_scattered : (w : Window) → 32 ≤ w.lines → (kind : ℕ → Option Kind) (ms : List PacketParts) → All IsPacketParts ms → All (λ (m : PacketParts). kind m.id.pgn ≡ Some Fast) ms → IsScattered w kind ms (as_entries (written kind ms))
unfolding sent_frames
written_scattered w long kind ms are fast = record {
  fast = fast;
  falls = λ k. fall w long kind k 1 (sendings ms) (are_sendings kind [] ms (recursion_from_All _ ms fast) (recursion_from_All _ ms are));
}

-- the frame of a packet is an entry of the program, and no message alone
pub record IsPieceEntry (kind : ℕ → Option Kind) (e : Entry) : Type 0 where
  pub entry : IsEntry e
  pub mute : alone kind e ≡ None

sent_byte-byte : (payload : List ℕ) (j : ℕ) → length payload ≤ longest_message → AreBytes payload → sent_byte payload j < 256
sent_byte-byte payload zero fits are = omega arith
sent_byte-byte payload (suc j) fits are = filled payload j are

bytes-map : (g : ℕ → ℕ) → ((j : ℕ) → g j < 256) → (ns : List ℕ) → AreBytes (map g ns)
bytes-map g h [] i = omega arith
bytes-map g h (n ∷ ns) zero = h n
bytes-map g h (n ∷ ns) (suc i) = bytes-map g h ns i

bytes-cons : (b : ℕ) (bytes : List ℕ) → b < 256 → AreBytes bytes → AreBytes (b ∷ bytes)
bytes-cons b bytes h are zero = h
bytes-cons b bytes h are (suc i) = are i

-- a piece is a packet with eight bytes
pub piece_length : (m : PacketParts) (s n : ℕ) → length (piece m s n).payload ≡ 8
unfolding piece_bytes
piece_length m s n = refl

pub piece_packet : (m : PacketParts) (s n : ℕ) → IsPacketParts m → s < 8 → n ≤ last_piece m → IsPacketParts (piece m s n)
unfolding piece_bytes
piece_packet m s n is low within = grind (arith, bytes-cons (32 * s + n) (piece_bytes m.payload n) (omega arith) (bytes-map (sent_byte m.payload) (λ j. sent_byte-byte m.payload j is.packet_ok.payload_ok is.bytes_ok) (range_with_len (7 * n) 7)))

piece_entries : (kind : ℕ → Option Kind) (x : Sending) → IsSending kind x → (first count : ℕ) → first + count ≤ last_piece x.message + 1 → AllByRecursion (IsPieceEntry kind) (as_entries (map (piece x.message x.sequence) (range_with_len first count)))
piece_entries kind x is first zero within = tt
piece_entries kind x is first (suc count) within = grind (arith, piece_entries kind x is (first + 1) count (omega arith), piece_packet x.message x.sequence first is.packet is.sequence (omega arith), piece_length x.message x.sequence first)

sending_entries : (kind : ℕ → Option Kind) (x : Sending) → IsSending kind x → AllByRecursion (IsPieceEntry kind) (as_entries (frames_of_sending kind x))
unfolding pieces_as
sending_entries kind x is = subst (λ k. AllByRecursion (IsPieceEntry kind) (as_entries (pieces_as k x.message x.sequence))) (sym is.fast) (piece_entries kind x is 0 (last_piece x.message + 1) (omega arith))

all_entries : (kind : ℕ → Option Kind) (xs : List Sending) → AllByRecursion (IsSending kind) xs → AllByRecursion (IsPieceEntry kind) (as_entries (flat_map (frames_of_sending kind) xs))
all_entries kind [] is = tt
all_entries kind (x ∷ xs) is = grind (arith, all_entries kind xs is.1, map-append, all-append, sending_entries)

pub written_entries : (kind : ℕ → Option Kind) (ms : List PacketParts) → All IsPacketParts ms → All (λ (m : PacketParts). kind m.id.pgn ≡ Some Fast) ms → AllByRecursion (IsPieceEntry kind) (as_entries (written kind ms))
written_entries kind ms are fast = all_entries kind (sendings ms) (are_sendings kind [] ms (recursion_from_All _ ms fast) (recursion_from_All _ ms are))

pub written_log : (w : Window) → 32 ≤ w.lines → (kind : ℕ → Option Kind) (ms : List PacketParts) → All IsPacketParts ms → All (λ (m : PacketParts). kind m.id.pgn ≡ Some Fast) ms → WrittenLog w kind ms
written_log w long kind ms are fast =
    let entries = written_entries kind ms are fast in
    record {
      entries = All-from_recursion IsEntry (as_entries (written kind ms)) (all-map (IsPieceEntry kind) IsEntry _ (λ e is. is.entry) entries);
      mute = All-from_recursion (λ (e : Entry). alone kind e ≡ None) (as_entries (written kind ms)) (all-map (IsPieceEntry kind) _ _ (λ e is. is.mute) entries);
      scattered = written_scattered w long kind ms are fast;
    }
