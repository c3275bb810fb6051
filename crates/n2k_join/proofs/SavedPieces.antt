-- The text of a state, as its parts are written one after the other.
use Rattle.std.proofs.lemmas.Grind.{common_steps, flat_map-append}
use Rattle.std.proofs.Common.{arith, ◌≡◌, ℕ, ◌+◌, Bool, List, [], ◌∷◌, ◌++◌, Option, filter_map, flat_map, refl, sym, ap, ◌∙◌, append_assoc, append-nil, zero-add, codes}
use Rattle.std.specs.List.{range_with_len}
use Rattle.json.specs.Print.{print}
use Rattle.json.specs.Token.{Token}
use Rattle.serde_json.proofs.Texts.{print-outline}
use Rattle.n2k_join.specs.declared.counts.Counts.{Counts}
use Rattle.n2k_join.specs.declared.piece.OpenGroup.{OpenGroup}
use Rattle.n2k_join.specs.Frames.{Key, most_frames}
use Rattle.n2k_join.specs.Open.{Piece, Group, piece_at}
use Rattle.n2k_join.specs.Saved.{are_waiting, tree_by, group_tree, state_tree, state_text}
use Rattle.n2k_join.specs.Inner.SavedTokens.{tokens_of, count_tokens, piece_tokens, pieces_tokens, frames_tokens, key_tokens, groups_tokens, open_tokens, prefix_tokens, table_tokens, back_tokens, window_tokens}
use Rattle.n2k_join.specs.State.{State}
use Rattle.n2k_join.specs.Inner.Slots.{slot_of, pieces_in, group_in}
use Rattle.n2k_join.proofs.Rising.{range-push, filter_map-push}
use Rattle.n2k_join.proofs.SavedLists.{items_tokens-map, six_written}

-- the pieces that a look-up finds below a number
unfoldable pub pieces_below : (ℕ → Option (List ℕ)) → ℕ → List Piece
pieces_below carries n = filter_map (piece_at carries) (range_with_len 0 n)

pub pieces_below-more : (carries : ℕ → Option (List ℕ)) (n : ℕ) (before : List Token)
    → (before ++ pieces_tokens (pieces_below carries n)) ++ piece_tokens (piece_at carries n) ≡ before ++ pieces_tokens (pieces_below carries (n + 1))
unfolding pieces_tokens pieces_below
pieces_below-more carries n before = grind (arith, append_assoc, flat_map-append, filter_map-push, zero-add, range-push, flat_map, append-nil)

pub more_written : (carries : ℕ → Option (List ℕ)) (n : ℕ) (before written now : List Token)
    → now ≡ written ++ piece_tokens (piece_at carries n) → written ≡ before ++ pieces_tokens (pieces_below carries n)
    → now ≡ before ++ pieces_tokens (pieces_below carries (n + 1))
more_written carries n before written now is so_far = is ∙ ap (λ ts. ts ++ piece_tokens (piece_at carries n)) so_far ∙ pieces_below-more carries n before

pub none_written : (before : List Token) (carries : ℕ → Option (List ℕ)) → before ≡ before ++ pieces_tokens (pieces_below carries 0)
unfolding pieces_tokens pieces_below
none_written before carries = sym (append-nil before)

below_all : (g : OpenGroup) → pieces_below (slot_of g) most_frames ≡ pieces_in g
unfolding pieces_below pieces_in
below_all g = refl

pub all_written : (before now : List Token) (g : OpenGroup) (n : ℕ) → n ≡ most_frames → now ≡ before ++ pieces_tokens (pieces_below (slot_of g) n)
    → now ≡ before ++ pieces_tokens (pieces_in g)
all_written before now g n all is = is ∙ ap (λ m. before ++ pieces_tokens (pieces_below (slot_of g) m)) all ∙ ap (λ ps. before ++ pieces_tokens ps) (below_all g)

pieces_of_key : (key : Key) (g : OpenGroup) → pieces_in g ≡ (group_in key g).pieces
unfolding pieces_in
pieces_of_key key g = refl

-- the frames of a group, as written
pub frames_written : (o o1 o2 o3 o4 : List Token) (ps : List Piece)
    → o1 ≡ o ++ Token.key (codes "frames") ∷ [] → o2 ≡ o1 ++ Token.begin_array ∷ [] → o3 ≡ o2 ++ pieces_tokens ps → o4 ≡ o3 ++ Token.end_array ∷ []
    → o4 ≡ o ++ frames_tokens ps
unfolding pieces_tokens
frames_written o o1 o2 o3 o4 ps p1 p2 p3 p4 = grind (arith, append-nil, items_tokens-map, common_steps)

pub group_written : (o o1 o2 o3 o4 o5 o6 : List Token) (key : Key) (g : OpenGroup) (dst : ℕ) → dst ≡ key.dst
    → o1 ≡ o ++ Token.begin_object ∷ [] → o2 ≡ o1 ++ count_tokens (codes "dst") dst → o3 ≡ o2 ++ count_tokens (codes "first") g.first
    → o4 ≡ o3 ++ frames_tokens (pieces_in g) → o5 ≡ o4 ++ key_tokens key → o6 ≡ o5 ++ Token.end_object ∷ []
    → o6 ≡ o ++ tokens_of (group_tree (group_in key g))
unfolding group_tree
group_written o o1 o2 o3 o4 o5 o6 key g dst is_dst p1 p2 p3 p4 p5 p6 =
    let q2 : o2 ≡ o1 ++ count_tokens (codes "dst") key.dst = p2 ∙ ap (λ d. o1 ++ count_tokens (codes "dst") d) is_dst in
    let q4 : o4 ≡ o3 ++ frames_tokens (group_in key g).pieces = p4 ∙ ap (λ ps. o3 ++ frames_tokens ps) (pieces_of_key key g) in
    six_written o (Token.begin_object ∷ []) (count_tokens (codes "dst") key.dst) (count_tokens (codes "first") g.first) (frames_tokens (group_in key g).pieces) (key_tokens key) (Token.end_object ∷ []) o1 o2 o3 o4 o5 o6 p1 q2 p3 q4 p5 p6

pub open_written : (o o1 o2 o3 o4 : List Token) (gs : List Group)
    → o1 ≡ o ++ Token.key (codes "groups") ∷ [] → o2 ≡ o1 ++ Token.begin_array ∷ [] → o3 ≡ o2 ++ groups_tokens gs → o4 ≡ o3 ++ Token.end_array ∷ []
    → o4 ≡ o ++ open_tokens gs
unfolding groups_tokens
open_written o o1 o2 o3 o4 gs p1 p2 p3 p4 = grind (arith, append-nil, items_tokens-map, common_steps)

pub state_written : (o o1 o2 o3 o4 o5 : List Token) (s : State) (with_window : Bool) → with_window ≡ are_waiting s
    → o1 ≡ o ++ Token.begin_object ∷ [] → o2 ≡ o1 ++ prefix_tokens with_window s.counts → o3 ≡ o2 ++ open_tokens s.groups
    → o4 ≡ o3 ++ back_tokens with_window s.id s.window.lines s.counts → o5 ≡ o4 ++ Token.end_object ∷ []
    → o5 ≡ o ++ tokens_of (state_tree s)
unfolding tree_by
state_written o o1 o2 o3 o4 o5 s with_window is p1 p2 p3 p4 p5 = grind (arith, six_written o (Token.begin_object ∷ []) (prefix_tokens with_window s.counts) (open_tokens s.groups) (back_tokens with_window s.id s.window.lines s.counts) (Token.end_object ∷ []) [] o1 o2 o3 o4 o5 o5 p1 p2 p3 p4 p5 (sym (append-nil o5)))

pub text_written : (s : State) (before text : List ℕ) (none ts : List Token) → text ≡ before ++ print ts → before ≡ [] → none ≡ [] → ts ≡ none ++ tokens_of (state_tree s)
    → text ≡ state_text s
unfolding state_text
text_written s before text none ts is nothing is_none all = grind (arith, print-outline)

-- the members after the open groups, as they are written
pub back_written : (o o1 o2 o3 o4 o5 : List Token) (with_window : Bool) (id : List ℕ) (window : ℕ) (c : Counts)
    → o1 ≡ o ++ count_tokens (codes "lines") c.lines → o2 ≡ o1 ++ count_tokens (codes "messages") c.messages → o3 ≡ o2 ++ table_tokens id
    → o4 ≡ o3 ++ count_tokens (codes "unknown") c.unknown → o5 ≡ o4 ++ window_tokens with_window window
    → o5 ≡ o ++ back_tokens with_window id window c
back_written o o1 o2 o3 o4 o5 with_window id window c p1 p2 p3 p4 p5 = grind (arith, append-nil, common_steps)
