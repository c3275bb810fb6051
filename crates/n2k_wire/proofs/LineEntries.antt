-- The entry of each line is one that a line can be: its packet's parts make a packet, and a frame is short.
use Rattle.std.proofs.Common.{◌≡◌, ℕ, zero, suc, ◌+◌, ◌<◌, ◌≤◌, Bool, true, ◌&&◌, List, [], ◌∷◌, ◌++◌, length, drop, take, Option, Some, Result, Ok, refl, sym, subst, ◌∙◌, arith, leb, eqb, inl, inr, if◌then◌else◌, option_map, length-take}
use Rattle.std.specs.Result.{result_ok}
use Rattle.std.proofs.lemmas.Bool.{and_parts, cases_Bool, eqb-true, leb-true}
use Rattle.hex.specs.Hex.{IsBytes, decode_of, decode_sized}
use Rattle.hex.proofs.HexLemmas.{decode_of-ok, decode_sized-ok, decode_sized-twice}
use Rattle.n2k_wire.specs.declared.entry.BadCause.TheVariants as causes
use Rattle.n2k_wire.specs.declared.entry.Entry.{Entry}
use Rattle.n2k_wire.specs.declared.entry.Packing.{Packing}
use Rattle.n2k_wire.specs.declared.identifier.Id.{Id}
use Rattle.n2k_wire.specs.Candump.{is_ending, digits_len, payload, frame_or_skip, candump}
use Rattle.n2k_wire.specs.Entry.{IsEntry, IsShort, entry}
use Rattle.n2k_wire.specs.Identifier.{split}
use Rattle.n2k_wire.specs.Packet.{PacketParts, IsPacketParts, is_stamp}
use Rattle.n2k_wire.specs.Plain.{Header, number_to, pair, pairs, header, id_of, bytes_of, packet_of, packet_of_columns, plain}
use Rattle.n2k_wire.specs.Stamp.{Moment}
use Rattle.n2k_wire.specs.Steps.{or_cause, holds_or, some_if}
use Rattle.n2k_wire.specs.Inner.Stamp.{IsMoment}
use Rattle.n2k_wire.proofs.UtcBack.{found, if_some, with_ok, with_some}
use Rattle.n2k_wire.proofs.UtcStamps.{utc_is_stamp, moment_is_one}

-- ---- steps that gave something

held : {E : Type 0} (cause : E) (test : Bool) (x : Unit {0}) → holds_or cause test ≡ Ok x → test ≡ true
held cause test x e = grind arith

answered : {A E : Type 0} (r : Result A E) (x : A) → result_ok r ≡ Some x → r ≡ Ok x
answered r x e = grind arith

-- ---- the identifier of 29 bits

-- an identifier that a packet can have
abbrev Fits : Id → Type 0
Fits id = (id.prio ≤ 7) × (id.pgn ≤ 16777215) × (id.src ≤ 255) × (id.dst ≤ 255)

split_fits : (n : ℕ) → Fits (split n)
unfolding split
split_fits n = grind arith

-- ---- data

-- digits of data are twice as many as their bytes
payload_fits : (text bytes : List ℕ) → payload text ≡ Some bytes → (length bytes ≤ 8) × IsBytes bytes
unfolding payload
payload_fits text bytes e =
    with_some (some_if (leb (digits_len text) 16 && is_ending (drop (digits_len text) text)) (take (digits_len text) text)) _ bytes e (λ digits ed e1.
    let parts = if_some (leb (digits_len text) 16 && is_ending (drop (digits_len text) text)) (take (digits_len text) text) digits ed in
    let few = leb-true (digits_len text) 16 (and_parts (leb (digits_len text) 16) (is_ending (drop (digits_len text) text)) parts.0).0 in
    let short : length digits ≤ 16 = rw (← parts.1) (omega (arith, length-take (digits_len text) text)) in
    let read = decode_of-ok digits bytes (answered (decode_of digits) bytes e1) in
    (omega (arith, read.2), read.3))

-- a pair of digits is one byte
pair_fits : (column bytes : List ℕ) → pair column ≡ Some bytes → (length bytes ≡ 1) × IsBytes bytes
unfolding pair
pair_fits column bytes e = grind (arith, decode_of-ok column bytes (sym (decode_sized-twice column 1 (decode_sized-ok column 1 bytes (answered (decode_sized column 1) bytes e))) ∙ (answered (decode_sized column 1) bytes e)))

-- one byte, then others
in_front : (byte bytes : List ℕ) → length byte ≡ 1 → IsBytes byte → IsBytes bytes → (length (byte ++ bytes) ≡ 1 + length bytes) × IsBytes (byte ++ bytes)
in_front [] bytes one a b = absurd (omega arith)
in_front (x ∷ []) bytes one a b = (omega arith, cons x bytes (a 0) b)
  where
    cons : (x : ℕ) (xs : List ℕ) → x < 256 → IsBytes xs → IsBytes (x ∷ xs)
    cons x xs h hs zero = h
    cons x xs h hs (suc i) = hs i
in_front (x ∷ y ∷ more) bytes one a b = absurd (omega arith)

with_mapped : {A B : Type 0} {P : Type 0} (o : Option A) (f : A → B) (y : B) → option_map f o ≡ Some y → ((x : A) → o ≡ Some x → f x ≡ y → P) → P
with_mapped o f y e follows = grind arith

pairs_fit : (more : List (List ℕ)) (bytes : List ℕ) → pairs more ≡ Some bytes → (length bytes ≡ length more) × IsBytes bytes
unfolding pairs
pairs_fit [] bytes e = let none : [] ≡ bytes = cc in rw (← none) (refl, λ i. omega arith)
pairs_fit (column ∷ more) bytes e =
    with_some (pair column) _ bytes e (λ byte eb e1.
    with_mapped (pairs more) _ bytes e1 (λ read er same.
    let one = pair_fits column byte eb in
    let rest = pairs_fit more read er in
    let whole = in_front byte read one.0 one.1 rest.1 in
    rw (← same) (omega (arith, whole.0, rest.0), whole.1)))

bytes_fit : (len : ℕ) (more : List (List ℕ)) (bytes : List ℕ) → bytes_of len more ≡ Some bytes → (length bytes ≡ len) × IsBytes bytes
unfolding bytes_of
bytes_fit len more bytes e =
    elim (cases_Bool (eqb (length more) len)) [
      | inl same ↦
          let read = pairs_fit more bytes (rw same at e) in
          (omega (arith, read.0, eqb-true (length more) len same), read.1)
      | inr other ↦ absurd (let none = rw other at e in cc)
    ]

-- ---- candump lines

frame_is_entry : (seen : Moment) (known : Option ℕ) (text : List ℕ) (e : Entry) → IsMoment seen → frame_or_skip seen known text ≡ Ok e → IsEntry e
unfolding frame_or_skip
frame_is_entry seen known text e is gives = grind (arith, split_fits, payload_fits, utc_is_stamp)

candump_is_entry : (line : List ℕ) (e : Entry) → candump line ≡ Ok e → IsEntry e
unfolding candump
candump_is_entry line e gives = grind (arith, frame_is_entry, moment_is_one)

-- ---- plain lines

number_fits : (limit n : ℕ) (column : List ℕ) → or_cause causes.Number (number_to limit column) ≡ Ok n → n ≤ limit
unfolding number_to
number_fits limit n column e = grind arith

id_fits : (h : Header) (id : Id) → id_of h ≡ Ok id → Fits id
unfolding id_of
id_fits h id e = grind (arith, number_fits)

packet_is_one : (stamp : List ℕ) (more : List (List ℕ)) (p : PacketParts) → packet_of stamp more ≡ Ok p → IsPacketParts p
unfolding packet_of
packet_is_one stamp more p e =
    with_ok (holds_or causes.Stamp (is_stamp stamp)) _ p e (λ u eu e1.
    with_ok (or_cause causes.Form (header more)) _ p e1 (λ h eh e2.
    with_ok (id_of h) _ p e2 (λ id ei e3.
    with_ok (or_cause causes.Number (number_to 223 h.len)) _ p e3 (λ len el e4.
    with_ok (or_cause causes.Data (bytes_of len h.more)) _ p e4 (λ bytes eb e5.
    let same : (record { stamp = stamp; id = id; payload = bytes }) ≡ p = cc in
    let fits = id_fits h id ei in
    let read = bytes_fit len h.more bytes (found causes.Data (bytes_of len h.more) bytes eb) in
    subst IsPacketParts same (record {
      packet_ok = record {
        stamp_ok = held causes.Stamp (is_stamp stamp) u eu;
        prio_ok = fits.0;
        pgn_ok = fits.1;
        payload_ok = omega (arith, read.0, number_fits 223 len h.len el);
      };
      src_ok = fits.2;
      dst_ok = fits.3;
      bytes_ok = read.1;
    }))))))

columns_are_packet : (all : List (List ℕ)) (p : PacketParts) → packet_of_columns all ≡ Ok p → IsPacketParts p
columns_are_packet [] p e = absurd cc
columns_are_packet (stamp ∷ more) p e = packet_is_one stamp more p e

plain_is_entry : (packing : Packing) (line : List ℕ) (e : Entry) → plain packing line ≡ Ok e → IsEntry e
plain_is_entry packing line e gives = grind (arith, columns_are_packet)

-- ---- lines

either : (test : Bool) (x y : Entry) → IsEntry x → IsEntry y → IsEntry (if test then x else y)
either test x y a b = grind arith

pub entry_is_entry : (line : List ℕ) (packing : Packing) → IsEntry (entry line packing)
unfolding entry
entry_is_entry line packing = grind (arith, candump_is_entry, plain_is_entry)

short_of : (e : Entry) → IsEntry e → IsShort e
short_of e is = grind arith

pub entry_is_short : (line : List ℕ) (packing : Packing) → IsShort (entry line packing)
entry_is_short line packing = short_of (entry line packing) (entry_is_entry line packing)
