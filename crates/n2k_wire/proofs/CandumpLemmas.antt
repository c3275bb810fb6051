-- Writing the parts of a candump line.
use Rattle.std.proofs.Common.{◌≡◌, ℕ, zero, suc, ◌+◌, ◌*◌, ◌/◌, ◌%◌, ◌≤◌, List, [], ◌∷◌, ◌++◌, length, map, take, slice_index, refl, sym, ap, ◌∙◌, append_assoc, arith, Some, None, Ok, Err, codes, ◌<◌, true, decimal, IsTrue, length-append}
use Rattle.std.specs.List.{list_all}
use Rattle.std.proofs.lemmas.Fmt.{length-decimal-le}
use Rattle.std.proofs.lemmas.Slice.{take-put_mid}
use Rattle.std.proofs.lemmas.List.{take_all}
use Rattle.std.specs.Char.{to_ascii_uppercase}
use Rattle.std.specs.Int.{w32, to_be_bytes}
use Rattle.hex.specs.Hex.{encode_with, encode_lower, encode_upper, lower_digits, upper_digits}
use Rattle.hex.proofs.HexLemmas.{length-encode_with}
use borrow.Rule.Slice.PartMut.{put_mid}
use Rattle.n2k_wire.specs.Candump.{is_interface, is_interface_byte}
use Rattle.n2k_wire.specs.declared.fault.WireFault.TheVariants.{NoStamp, NoId}
use Rattle.n2k_wire.specs.Identifier.{join}
use Rattle.n2k_wire.specs.Packet.{PacketParts}
use Rattle.n2k_wire.specs.Heads.{line_after}
use Rattle.n2k_wire.specs.Inner.Stamp.{IsStampText, after_millis, second_prefix}
use Rattle.n2k_wire.specs.Stamp.{millis_digits, utc_moment}
use Rattle.n2k_wire.specs.Texts.{candump_line, candump_parts, candump_text}

-- a name of an interface has a few bytes of its own
pub name_parts : (name : List ℕ) → is_interface name ≡ true → (0 < length name) × (length name ≤ 15) × (list_all is_interface_byte name ≡ true)
unfolding is_interface
name_parts name ok = grind arith

pub interface_short : (name : List ℕ) → IsTrue (is_interface name) → length name ≤ 15
interface_short name ok = (name_parts name ok).1

-- the digit of the other table is its upper case
indexed : (f : ℕ → ℕ) (digits : List ℕ) (i : ℕ) → f 0 ≡ 0 → slice_index (map f digits) i ≡ f (slice_index digits i)
indexed f [] i none = sym none
indexed f (digit ∷ digits) zero none = refl
indexed f (digit ∷ digits) (suc i) none = indexed f digits i none

-- digits in upper case are lower-case digits, converted
pub upper_of_lower : (bytes : List ℕ) → map to_ascii_uppercase (encode_lower bytes) ≡ encode_upper bytes
unfolding encode_with
upper_of_lower [] = refl
upper_of_lower (b ∷ bytes) = rw (indexed to_ascii_uppercase lower_digits (b / 16) refl, indexed to_ascii_uppercase lower_digits (b % 16) refl, upper_of_lower bytes) refl

pub upper_len : (bytes : List ℕ) → length (encode_upper bytes) ≡ 2 * length bytes
upper_len bytes = length-encode_with upper_digits bytes

pub upper_of_eight : (bytes : List ℕ) → length bytes ≡ 8 → take 16 (encode_upper bytes) ≡ encode_upper bytes
upper_of_eight bytes eight = take_all 16 (encode_upper bytes) (omega (arith, upper_len bytes, eight))

-- the seconds of every moment have at most twelve digits, and with their zeros at least ten
pub seconds_short : (n : ℕ) → n ≤ 253402300799 → length (decimal n) ≤ 12
seconds_short n few = length-decimal-le 12 n (omega arith) (omega arith) (omega arith)

-- the digits of bytes, written at a place of a text
pub digits_put : (text digits bytes : List ℕ) (at k end : ℕ) → digits ≡ encode_upper bytes → end ≡ at + 2 * length bytes → at ≤ length text → take end (put_mid at k text digits) ≡ take at text ++ encode_upper bytes
digits_put text digits bytes at k end same is inside =
    take-put_mid at k text digits end (is ∙ ap (λ n. at + n) (sym (ap length same ∙ upper_len bytes))) inside ∙ ap (λ (t : List ℕ). take at text ++ t) same

pub after_short : (interface : List ℕ) → IsTrue (is_interface interface) → length (after_millis interface) ≤ 21
after_short interface ok = omega (arith, interface_short interface ok, length-append interface (codes " "))

-- ---- why a packet has no line, and how the line that it has begins

pub no_stamp : (interface : List ℕ) (p : PacketParts) → utc_moment p.stamp ≡ None → candump_text interface p ≡ Err NoStamp
unfolding candump_parts
no_stamp interface p none = rw none refl

pub no_id : (interface begun : List ℕ) (p : PacketParts) → IsStampText (utc_moment p.stamp) begun → join p.id ≡ None → candump_text interface p ≡ Err NoId
unfolding candump_parts
no_id interface begun p (seen, found, is) none = rw (found, none) refl

-- parts that are written in order begin the packet's line, whatever its data
pub head_is : (interface prefix millis after bytes t1 t2 t3 t4 t5 : List ℕ) (identifier : ℕ) (p : PacketParts) → IsStampText (utc_moment p.stamp) (prefix ++ millis) → join p.id ≡ Some identifier
    → after ≡ after_millis interface → bytes ≡ to_be_bytes w32 identifier → t1 ≡ prefix → t2 ≡ t1 ++ millis → t3 ≡ t2 ++ after → t4 ≡ t3 ++ encode_upper bytes → t5 ≡ t4 ++ codes "#"
    → (payload : List ℕ) → candump_text interface (record p { payload = payload }) ≡ Ok (line_after t5 payload)
unfolding candump_parts candump_line
head_is interface prefix millis after bytes t1 t2 t3 t4 t5 identifier p (seen, found, is) joined after_is bytes_are a b c d e payload =
    let all : t5 ≡ second_prefix seen.seconds ++ millis_digits seen.millis ++ after_millis interface ++ encode_upper (to_be_bytes w32 identifier) ++ codes "#" = grind (arith, append_assoc) in
    rw (found, joined, all) (simp append_assoc)
