-- The members of an object, one after the other.
use Rattle.std.proofs.Common.{◌≡◌, ℕ, Bool, true, false, ◌||◌, List, [], ◌∷◌, ◌++◌, length, Option, Some, is_some, refl, sym, ap, ◌∙◌, append_assoc, arith, Result, OnOk, codes, if◌then◌else◌, append-nil}
use Rattle.std.specs.List.{filter_map, cons_option, join_with_byte}
use Rattle.n2k_table.specs.Field.{FieldParts}
use Rattle.n2k_table.specs.Shown.{all_shown, shown}
use Rattle.n2k_table.specs.Json.{colon, member_json}
use Rattle.n2k_table.specs.Definition.{list_name}
use Rattle.n2k_table.specs.Text.{text_json}
use Rattle.n2k_table.proofs.Escapes.{text_json-plain}
use Rattle.n2k_table.specs.Inner.Line.{has_members, member_text}

-- members with a comma before each, except the first if no member precedes
abbrev pub members_from : Bool → List (List ℕ) → List ℕ
members_from later [] = []
members_from later (m ∷ ms) = member_text later (Some m) ++ members_from true ms

pub members_from-joined : (ms : List (List ℕ)) → members_from false ms ≡ join_with_byte 44 ms
members_from-joined [] = refl
members_from-joined (m ∷ []) = append-nil m
members_from-joined (m ∷ n ∷ ms) = ap (λ rest. m ++ (44 ∷ rest)) (members_from-joined (n ∷ ms))

-- one more field, which may be left out
one_more : (later : Bool) (m : Option (List ℕ)) (rest : List (List ℕ)) (line : List ℕ)
    → line ++ members_from later (cons_option m rest) ≡ (line ++ member_text later m) ++ members_from (later || is_some m) rest
one_more later m rest line = grind (arith, append_assoc)

pub goes_on : (empty later : Bool) (rest others : List FieldParts) (payload : List ℕ) (f : FieldParts) (line total : List ℕ) → rest ≡ f ∷ others
    → line ++ members_from later (filter_map (member_json empty) (all_shown rest payload)) ≡ total
    → (line ++ member_text later (member_json empty (f.name, shown f payload)))
    ++ members_from (later || is_some (member_json empty (f.name, shown f payload))) (filter_map (member_json empty) (all_shown others payload)) ≡ total
goes_on empty later rest others payload f line total here so_far = grind (arith, one_more)

pub is_done : (empty later : Bool) (rest : List FieldParts) (payload line total : List ℕ) → length rest ≡ 0
    → line ++ members_from later (filter_map (member_json empty) (all_shown rest payload)) ≡ total → line ≡ total
is_done empty later [] payload line total none so_far = sym (append-nil line) ∙ so_far
is_done empty later (f ∷ fs) payload line total none so_far = absurd (omega arith)

-- one more member after some
pub joined_more : (ms : List (List ℕ)) (m : List ℕ) → join_with_byte 44 (ms ++ m ∷ []) ≡ join_with_byte 44 ms ++ member_text (has_members ms) (Some m)
joined_more [] m = refl
joined_more (x ∷ []) m = refl
joined_more (x ∷ y ∷ ms) m = ap (λ rest. x ++ (44 ∷ rest)) (joined_more (y ∷ ms) m) ∙ sym (append_assoc x (44 ∷ join_with_byte 44 (y ∷ ms)) (44 ∷ m))

flag_end : (later : Bool) → (later || false) ≡ later
flag_end later = grind arith

pub flag_goes_on : (empty later total : Bool) (rest others : List FieldParts) (payload : List ℕ) (f : FieldParts) → rest ≡ f ∷ others
    → (later || has_members (filter_map (member_json empty) (all_shown rest payload))) ≡ total
    → ((later || is_some (member_json empty (f.name, shown f payload))) || has_members (filter_map (member_json empty) (all_shown others payload))) ≡ total
flag_goes_on empty later total rest others payload f here so_far = grind arith

pub flag_is_done : (empty later total : Bool) (rest : List FieldParts) (payload : List ℕ) → length rest ≡ 0
    → (later || has_members (filter_map (member_json empty) (all_shown rest payload))) ≡ total → later ≡ total
flag_is_done empty later total [] payload none so_far = sym (flag_end later) ∙ so_far
flag_is_done empty later total (f ∷ fs) payload none so_far = absurd (omega arith)

-- what holds of an answer
pub on_ok : {T E : Type 0} {P Q : Type 0} (r : Result T E) → (P → Q) → OnOk r P → OnOk r Q
on_ok r f p = grind arith

-- the sets as a last member, in three parts
pub last_parts : (line sets l1 l2 l3 : List ℕ) (later : Bool) → l1 ≡ line ++ (if later then codes ",\"list\":[" else codes "\"list\":[") → l2 ≡ l1 ++ sets → l3 ≡ l2 ++ codes "]"
    → l3 ≡ line ++ member_text later (Some (text_json list_name ++ colon ∷ (codes "[" ++ sets ++ codes "]")))
last_parts line sets l1 l2 l3 later p1 p2 p3 = grind (arith, text_json-plain, append_assoc)

-- the fields of a message, and a last member after them
pub with_last : (ms : List (List ℕ)) (m line l1 l2 : List ℕ) (later : Bool) → l1 ≡ line ++ join_with_byte 44 ms → later ≡ has_members ms → l2 ≡ l1 ++ member_text later (Some m)
    → l2 ≡ line ++ join_with_byte 44 (ms ++ m ∷ [])
with_last ms m line l1 l2 later p1 flag p2 = rw (p2, flag, p1, joined_more ms m) (append_assoc line (join_with_byte 44 ms) (member_text (has_members ms) (Some m)))

-- a line to which six parts are appended in turn
pub six_parts : (line a b c d e f l1 l2 l3 l4 l5 l6 : List ℕ)
    → l1 ≡ line ++ a → l2 ≡ l1 ++ b → l3 ≡ l2 ++ c → l4 ≡ l3 ++ d → l5 ≡ l4 ++ e → l6 ≡ l5 ++ f
    → l6 ≡ line ++ (((((a ++ b) ++ c) ++ d) ++ e) ++ f)
six_parts line a b c d e f l1 l2 l3 l4 l5 l6 p1 p2 p3 p4 p5 p6 = rw (p6, p5, p4, p3, p2, p1) (simp append_assoc)

-- a line to which four parts are appended in turn
pub four_parts : (line a b c d l1 l2 l3 l4 : List ℕ) → l1 ≡ line ++ a → l2 ≡ l1 ++ b → l3 ≡ l2 ++ c → l4 ≡ l3 ++ d → l4 ≡ line ++ (((a ++ b) ++ c) ++ d)
four_parts line a b c d l1 l2 l3 l4 p1 p2 p3 p4 = rw (p4, p3, p2, p1) (simp append_assoc)
