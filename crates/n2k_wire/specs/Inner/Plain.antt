-- A plain line as the code reads it, column by column.
use Rattle.std.specs.Prelude.{◌≡◌, ℕ, ◌+◌, true, List, [], ◌∷◌, ◌++◌, length, Option, Some, None, option_map}
use Rattle.std.specs.Borrow.{Bor}
use Rattle.std.specs.Char.{is_ascii_hexdigit}
use Rattle.std.specs.List.{list_all}
use Rattle.std.specs.Result.{result_ok}
use Rattle.hex.specs.Hex.{decode_of}
use Rattle.n2k_wire.specs.declared.entry.Entry.{Entry}
use Rattle.n2k_wire.specs.declared.entry.Packing.{Packing}
use Rattle.n2k_wire.specs.declared.plain.Header as headers_of_code
use Rattle.n2k_wire.specs.Plain.{Header, greatest_address, number_to, packed, pairs, columns}
use Rattle.n2k_wire.specs.Packet.{greatest_pgn, greatest_priority}
use Rattle.n2k_wire.specs.declared.identifier.Id.{Id}

-- the columns of the remaining text of a plain line, if there is any
abbrev pub columns_left : Option (Bor (List ℕ)) → List (List ℕ)
columns_left None = []
columns_left (Some text) = columns text.now

-- the columns after a stamp; the code keeps the last ones as one text
abbrev pub plain_header : headers_of_code.Header → Header
plain_header h =
    record {
      prio = h.prio.now;
      pgn = h.pgn.now;
      src = h.src.now;
      dst = h.dst.now;
      len = h.len.now;
      more = columns_left h.more;
    }

-- the first column of a text is this number, up to a limit, and the columns after it are the columns of the rest
abbrev pub IsNumberBefore : ℕ → List ℕ → ℕ → List ℕ → Type 0
IsNumberBefore limit text n rest =
    (column : List ℕ) × (columns text ≡ column ∷ columns rest) × (number_to limit column ≡ Some n)

-- the first four columns of a text are the numbers of an identifier, and the columns after them are the columns of the
-- rest
abbrev pub IsIdBefore : List ℕ → Id → List ℕ → Type 0
IsIdBefore text id rest =
    (pgn src dst : List ℕ) × IsNumberBefore greatest_priority text id.prio pgn
    × IsNumberBefore greatest_pgn pgn id.pgn src
    × IsNumberBefore greatest_address src id.src dst
    × IsNumberBefore greatest_address dst id.dst rest

-- pairs of digits with a comma between each two pairs
unfoldable pub with_commas : List ℕ → List ℕ
with_commas [] = []
with_commas (a ∷ []) = a ∷ []
with_commas (a ∷ b ∷ []) = a ∷ b ∷ []
with_commas (a ∷ b ∷ c ∷ more) = a ∷ b ∷ 44 ∷ with_commas (c ∷ more)

-- a text is eight columns of hexadecimal digits, which spell these bytes
pub record AreSpelled (text bytes : List ℕ) : Type 0 where
  pub digits : List ℕ
  pub text_is : text ≡ with_commas digits
  pub hexadecimal : list_all is_ascii_hexdigit digits ≡ true
  pub count : length digits ≡ 16
  pub bytes_are : result_ok (decode_of digits) ≡ Some bytes

-- these columns are the columns of these bytes, followed by more
pub record AreRead (all : List (List ℕ)) (bytes : List ℕ) (more : List (List ℕ)) : Type 0 where
  pub count : length all ≡ length bytes + length more
  pub read : pairs all ≡ option_map (λ others. bytes ++ others) (pairs more)

-- an entry is that of a plain line with these parts and this data, which could be read
abbrev pub IsPackedOf : Packing → List ℕ → Id → Option (List ℕ) → Entry → Type 0
IsPackedOf packing stamp id bytes e =
    option_map (λ payload. packed packing (record { stamp = stamp; id = id; payload = payload })) bytes ≡ Some e
