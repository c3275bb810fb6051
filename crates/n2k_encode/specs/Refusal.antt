-- Why a line cannot be encoded: the causes, their numbers and the names in them.
use Rattle.std.specs.Prelude.{ℕ, Bool, true, false, List, [], ⊤}
use Rattle.n2k_encode.specs.declared.refusal.EncodeError.{EncodeError}
use Rattle.n2k_encode.specs.declared.refusal.EncodeError.TheVariants.{Memory, Refused}
use Rattle.n2k_encode.specs.declared.refusal.Refusal.{Refusal}
use Rattle.n2k_encode.specs.declared.refusal.Refusal.TheVariants.{Long, Json, Member, Unknown, Address, Description, Field, Value, Size, Data}

-- a cause; B16, B17 and B18 have the name of a field
pub data CauseParts : Type 0 where
  long : CauseParts
  not_json : CauseParts
  member : CauseParts
  unknown : CauseParts
  address : CauseParts
  description : CauseParts
  field : List ℕ → CauseParts
  value : List ℕ → CauseParts
  size : CauseParts
  none_shows : List ℕ → CauseParts

-- the cause that a refusal of the code means
abbrev pub cause : Refusal → CauseParts
cause Long = long
cause Json = not_json
cause Member = member
cause Unknown = unknown
cause Address = address
cause Description = description
cause (Field name) = field name.now
cause (Value name) = value name.now
cause Size = size
cause (Data name) = none_shows name.now

abbrev pub number_of : Refusal → ℕ
number_of Long = 1
number_of Json = 13
number_of Member = 14
number_of Unknown = 8
number_of Address = 12
number_of Description = 15
number_of (Field name) = 16
number_of (Value name) = 17
number_of Size = 9
number_of (Data name) = 18

abbrev pub name_of : Refusal → List ℕ
name_of Long = []
name_of Json = []
name_of Member = []
name_of Unknown = []
name_of Address = []
name_of Description = []
name_of (Field name) = name.now
name_of (Value name) = name.now
name_of Size = []
name_of (Data name) = name.now

abbrev pub is_size : CauseParts → Bool
is_size long = false
is_size not_json = false
is_size member = false
is_size unknown = false
is_size address = false
is_size description = false
is_size (field name) = false
is_size (value name) = false
is_size size = true
is_size (none_shows name) = false

-- this is true of the cause, unless memory was refused
abbrev pub IfRefused : EncodeError → (CauseParts → Type 0) → Type 0
IfRefused Memory holds = ⊤
IfRefused (Refused refusal) holds = holds (cause refusal)
