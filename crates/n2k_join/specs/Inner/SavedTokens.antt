-- The text of a saved state, token by token.
use Rattle.std.specs.Prelude.{◌≡◌, ℕ, Bool, if◌then◌else◌, List, [], ◌∷◌, ◌++◌, decimal, codes, map, Option, Some, None}
use Rattle.std.specs.Prelude.{OnOk, Result}
use Rattle.std.specs.List.{flat_map}
use Rattle.json.specs.Token.{Token}
use Rattle.json.specs.Tree.{json_tokens}
use Rattle.json.specs.Written.{Written}
use Rattle.serde_json.specs.Data.{Data}
use Rattle.serde_json.specs.Written.{outline}
use Rattle.hex.specs.Hex.{encode_lower}
use Rattle.n2k_join.specs.declared.counts.Counts.{Counts}
use Rattle.n2k_join.specs.Frames.{Key}
use Rattle.n2k_join.specs.Open.{Piece, Group}
use Rattle.n2k_join.specs.Saved.{format_by, list, piece_tree, group_tree}

-- the tokens of a value
abbrev pub tokens_of : Data → List Token
tokens_of d = json_tokens (outline d)

-- a member that is a whole number
abbrev pub count_tokens : List ℕ → ℕ → List Token
count_tokens name n = Token.key name ∷ Token.number (decimal n) ∷ []

-- the frames of a group, and the groups of a state, without their brackets
unfoldable pub pieces_tokens : List Piece → List Token
pieces_tokens ps = flat_map (λ p. tokens_of (piece_tree p)) ps

-- a frame that may be missing
abbrev pub piece_tokens : Option Piece → List Token
piece_tokens None = []
piece_tokens (Some p) = tokens_of (piece_tree p)

-- the frames of a group as a member of it
abbrev pub frames_tokens : List Piece → List Token
frames_tokens ps = Token.key (codes "frames") ∷ tokens_of (list (map piece_tree ps))

-- the members of a group after its frames
abbrev pub key_tokens : Key → List Token
key_tokens key =
    count_tokens (codes "pgn") key.pgn ++ count_tokens (codes "seq") key.sequence ++ count_tokens (codes "src") key.src

unfoldable pub groups_tokens : List Group → List Token
groups_tokens gs = flat_map (λ g. tokens_of (group_tree g)) gs

-- the open groups as a member of the state
abbrev pub open_tokens : List Group → List Token
open_tokens gs = Token.key (codes "groups") ∷ tokens_of (list (map group_tree gs))

-- the members of the state before `groups`
abbrev pub prefix_tokens : Bool → Counts → List Token
prefix_tokens with_window c =
    count_tokens (codes "bad") c.bad ++ count_tokens (codes "broken") c.broken
    ++ count_tokens (codes "format") (format_by with_window)

abbrev pub table_tokens : List ℕ → List Token
table_tokens id = Token.key (codes "table") ∷ Token.string (encode_lower id) ∷ []

-- the member `window`, if the format has it
abbrev pub window_tokens : Bool → ℕ → List Token
window_tokens with_window window = if with_window then count_tokens (codes "window") window else []

abbrev pub back_tokens : Bool → List ℕ → ℕ → Counts → List Token
back_tokens with_window id window c =
    count_tokens (codes "lines") c.lines ++ count_tokens (codes "messages") c.messages ++ table_tokens id
    ++ count_tokens (codes "unknown") c.unknown ++ window_tokens with_window window

-- these tokens were appended, and nothing else changed
pub record AppendsTokens {E : Type 0} (result : Result (Unit {0}) E) (old new : Written) (added : List Token)
    : Type 0 where
  pub tokens : OnOk result (new.tokens ≡ old.tokens ++ added)
  pub before : new.before ≡ old.before
