-- The text after the stamp of a line in the form that `candump` writes.
use Rattle.std.proofs.Common.{◌≡◌, ℕ, ◌<◌, ◌≤◌, true, false, not, List, [], ◌∷◌, ◌++◌, take, drop, get_or, length, Some, Ok, refl, sym, subst, arith, position, option_map, take-append-drop}
use Rattle.std.specs.Char.{is_ascii_hexdigit}
use Rattle.std.specs.Int.{w32, from_be_bytes}
use Rattle.std.specs.List.{list_all}
use Rattle.std.specs.Result.{result_ok}
use Rattle.std.proofs.lemmas.Bool.{eqb-true, le-leb, lt-ltb}
use Rattle.std.proofs.Math.Seq.{take-length}
use lib.Lanes.{pick_l}
use Rattle.hex.specs.Hex.{decode_of}
use Rattle.n2k_wire.specs.declared.entry.Entry.TheVariants as entries
use Rattle.n2k_wire.specs.declared.entry.Packing.{Packing}
use Rattle.n2k_wire.specs.Candump.{stamped, framed, is_interface, is_interface_byte, identifier, is_other_frame, is_ending, payload, frame_or_skip, candump}
use Rattle.n2k_wire.specs.Entry.{entry, settled}
use Rattle.n2k_wire.specs.Identifier.{split}
use Rattle.n2k_wire.specs.Cuts.{after_byte}
use Rattle.n2k_wire.specs.Inner.Candump.{IsFramed, stamp_after}
use Rattle.n2k_wire.proofs.CandumpBack.{candump_entry, framed_read}
use Rattle.n2k_wire.proofs.HexDigits.{all_before, all_digits, all_prefix, decode_of-even, spelled, spelled_bytes}
use Rattle.n2k_wire.proofs.TextLemmas.{listed, listed_all}
use Rattle.n2k_wire.proofs.FastStamps.{follows}

interface_of : (name : List ℕ) → 0 < length name → length name ≤ 15 → list_all is_interface_byte name ≡ true → is_interface name ≡ true
unfolding is_interface
interface_of name some few all = rw (lt-ltb 0 (length name) some, le-leb (length name) 15 few, all) refl

-- an interface between two single spaces, eight digits and a `#` are found by place
pub by_place : (text named name rest inner digits after more : List ℕ) (at : ℕ)
    → after_byte 32 text ≡ Some named → position (λ b. not (is_interface_byte b)) named ≡ Some at
    → name ≡ take at named → rest ≡ drop at named → length name ≡ at → 0 < at → at ≤ 15
    → after_byte 32 rest ≡ Some inner → digits ≡ take 8 inner → after ≡ drop 8 inner → length digits ≡ 8
    → list_all is_ascii_hexdigit digits ≡ true → after_byte 35 after ≡ Some more
    → framed text ≡ Some (digits, more)
by_place text named name rest inner digits after more at opened found name_is rest_is long some few spaced digits_is after_is eight hex hashed = grind (arith, all_before is_interface_byte named, follows 32 rest inner spaced, follows 35 after more hashed, follows 32 text named opened, take-append-drop at named, take-append-drop 8 inner, interface_of, framed_read)

-- eight digits are an identifier
pub identifier_of : (digits : List ℕ) (n : ℕ) → list_all is_ascii_hexdigit digits ≡ true → length digits ≡ 8 → option_map (from_be_bytes w32) (result_ok (decode_of digits)) ≡ Some n → n < 0x20000000
    → identifier digits ≡ Ok (Some n)
unfolding identifier
identifier_of digits n hex eight read small = grind arith

-- eight digits twice
abbrev pub twice : List ℕ → List ℕ
twice digits = pick_l 0 (digits ++ digits) (0 ∷ 1 ∷ 2 ∷ 3 ∷ 4 ∷ 5 ∷ 6 ∷ 7 ∷ 0 ∷ 1 ∷ 2 ∷ 3 ∷ 4 ∷ 5 ∷ 6 ∷ 7 ∷ [])

-- the first four bytes of eight digits twice are those of the digits
pub word_of : (digits bytes : List ℕ) → length digits ≡ 8 → list_all is_ascii_hexdigit (twice digits) ≡ true → result_ok (decode_of (twice digits)) ≡ Some bytes
    → (list_all is_ascii_hexdigit digits ≡ true) × (result_ok (decode_of digits) ≡ Some (get_or bytes 0 0 ∷ get_or bytes 1 0 ∷ get_or bytes 2 0 ∷ get_or bytes 3 0 ∷ []))
unfolding listed spelled
word_of digits bytes eight hex decoded = grind (arith, listed_all 8 0 digits eight, spelled_bytes 8 (twice (listed 8 0 digits)) bytes (subst (λ t. list_all is_ascii_hexdigit (twice t) ≡ true) (listed_all 8 0 digits eight) hex) refl (subst (λ t. result_ok (decode_of (twice t)) ≡ Some bytes) (listed_all 8 0 digits eight) decoded), all_prefix is_ascii_hexdigit 8 (twice (listed 8 0 digits)) (subst (λ t. list_all is_ascii_hexdigit (twice t) ≡ true) (listed_all 8 0 digits eight) hex), decode_of-even 4 digits (subst (λ t. list_all is_ascii_hexdigit t ≡ true) (sym (listed_all 8 0 digits eight)) (all_prefix is_ascii_hexdigit 8 (twice (listed 8 0 digits)) (subst (λ t. list_all is_ascii_hexdigit (twice t) ≡ true) (listed_all 8 0 digits eight) hex))) eight)

-- sixteen digits are the data of a frame
pub payload_of : (text bytes : List ℕ) → list_all is_ascii_hexdigit text ≡ true → length text ≡ 16 → result_ok (decode_of text) ≡ Some bytes → payload text ≡ Some bytes
unfolding payload is_ending
payload_of text bytes hex sixteen read = grind (arith, all_digits is_ascii_hexdigit text hex, take-length text)

-- the entry of a line, by its parts
pub entry_of : (line stamp text after bytes : List ℕ) (n : ℕ) → stamp_after line ≡ Some (stamp, text) → IsFramed text n after
    → is_other_frame after ≡ false → payload after ≡ Some bytes → settled (candump line) ≡ entries.Frame (record { stamp = stamp; id = split n; payload = bytes })
unfolding stamp_after candump frame_or_skip
entry_of line stamp text after bytes n is (digits, framed_is, known) other read = grind arith

-- a line in this form is a candump line
pub entry_line : (line stamp text : List ℕ) (packing : Packing) → stamp_after line ≡ Some (stamp, text) → length line ≤ 2048 → entry line packing ≡ settled (candump line)
unfolding stamp_after stamped after_byte
entry_line [] stamp text packing seen short = absurd cc
entry_line (b ∷ rest) stamp text packing seen short = grind (arith, eqb-true, candump_entry)
