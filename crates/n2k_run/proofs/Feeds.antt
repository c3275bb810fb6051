-- The first line of bytes that begin with the placeholder for a part of a long line.
use Rattle.std.proofs.Common.{◌≡◌, ◌⊎◌, inl, inr, ℕ, ◌+◌, ◌-◌, ◌<◌, ◌≤◌, Bool, true, false, List, [], ◌∷◌, ◌++◌, length, take, drop, refl, sym, ap, ◌∙◌, subst, append_assoc, arith, length-append, length-take, Option, Ok, if◌then◌else◌, slice_index, min}
use Rattle.std.specs.Io.KnownBytes.{IsAtEnd}
use Rattle.std.proofs.lemmas.List.{append-nil, drop_all, take_all, length-replicate, get_or-replicate, get_or_at}
use Rattle.std.proofs.lemmas.List.Elements.{All-head, All-tail, All-append, All-replicate}
use borrow.Rule.Slice.PartMut.{mid_of}
use Rattle.n2k_wire.specs.Entry.{longest_line}
use Rattle.n2k_run.specs.declared.blocks.Blocks.TheInside.{Inside}
use Rattle.n2k_run.specs.declared.blocks.Next.{Next}
use Rattle.n2k_run.specs.declared.blocks.Next.TheVariants.{Line, Long, End}
use Rattle.n2k_run.specs.Blocks.{BlocksView, FirstLine, GivesNext, HasFeed, HasNoFeed, passed, unanswered}
use Rattle.n2k_run.specs.Inner.Block.{HasLine, HasPlaces, Judges, MakesRoom, block_view}
use Rattle.n2k_run.specs.Lines.{is_line_feed, without_return}
use Rattle.n2k_run.proofs.Ranges.{length-range, range_rest, range_take}

-- a byte that ends no line
abbrev pub is_plain : ℕ → Type 0
is_plain byte = is_line_feed byte ≡ false

pub unanswered_plain : (held : BlocksView) → held.is_passing ≡ false → unanswered held ≡ held.kept
unanswered_plain held plain = rw plain refl

pub length-passed : length passed ≡ longest_line + 1
unfolding passed
length-passed = length-replicate {A = ℕ} (longest_line + 1) 120

pub passed-no_feed : HasNoFeed passed
unfolding passed
passed-no_feed = All-replicate is_plain (longest_line + 1) 120 refl

-- one byte is dropped at most
without_return-length : (chunk : List ℕ) → length chunk ≤ length (without_return chunk) + 1
without_return-length chunk = grind (arith, length-take)

-- a piece of more than 2,049 bytes is over the limit
pub long_chunk : (chunk : List ℕ) → longest_line + 1 < length chunk → longest_line < length (without_return chunk)
long_chunk chunk long = omega (arith, without_return-length chunk, long)

-- the last byte of the placeholder, whatever comes after it
passed-last : (n : ℕ) → n ≡ longest_line → slice_index passed n ≡ 120
unfolding passed
passed-last n is = get_or-replicate (longest_line + 1) n 120 0 (omega (arith, is))

passed-whole : without_return passed ≡ passed
passed-whole = grind (arith, passed-last, length-passed)

pub long_after : (rest : List ℕ) → longest_line < length (without_return (passed ++ rest))
long_after [] = grind (arith, append-nil, passed-whole, length-passed)
long_after (byte ∷ rest) = long_chunk (passed ++ (byte ∷ rest)) (omega (arith, length-append passed (byte ∷ rest), length-passed))

-- a prefix without a line feed belongs to the piece
pub split_past : (prefix rest chunk after : List ℕ) → HasNoFeed prefix → prefix ++ rest ≡ chunk ++ (10 ∷ after) → (more : List ℕ) × (chunk ≡ prefix ++ more) × (rest ≡ more ++ (10 ∷ after))
split_past [] rest chunk after none is = (chunk, refl, is)
split_past (byte ∷ prefix) rest [] after none is =
    let head : byte ≡ 10 = cc in
    let no : is_line_feed 10 ≡ false = subst is_plain head (All-head is_plain byte prefix none) in
    cc
split_past (byte ∷ prefix) rest (x ∷ chunk) after none is = grind (arith, split_past prefix rest chunk after (All-tail is_plain byte prefix none) cc)

-- bytes with a line feed do not lack one
pub feed_or_none : (bytes : List ℕ) → HasFeed bytes → HasNoFeed bytes → ⊥
feed_or_none bytes feed none = grind (arith, length-append feed.0 (10 ∷ feed.1), get_or_at feed.0 10 feed.1 0 (length feed.0) refl)

-- The piece ends at a line feed, or at the end of the source, with nothing left after it; `prefix` is before it.
abbrev pub EndsChunk : (prefix kept chunk rest : List ℕ) → Bool → Option (List ℕ) → Type 0
EndsChunk prefix kept chunk rest ended left = ((ended ≡ false) × (kept ≡ chunk ++ (10 ∷ rest)))
    ⊎ (IsAtEnd left × (ended ≡ true) × (kept ≡ chunk) × (0 < length (prefix ++ chunk)) × (rest ≡ []))

ends_chunk : (prefix kept : List ℕ) (size : ℕ) (ended : Bool) (left : Option (List ℕ)) → HasLine kept size ended left → (ended ≡ true → 0 < length (prefix ++ kept)) → HasNoFeed (take size kept) × EndsChunk prefix kept (take size kept) (drop (size + 1) kept) ended left
ends_chunk prefix kept size false left has some = (has.no_feed, inl (refl, has.split))
ends_chunk prefix kept size true left has some =
    let all = take_all size kept (omega (arith, has.2)) in
    (subst HasNoFeed (sym all) has.1, inr (has.0, refl, sym all, subst (λ chunk. 0 < length (prefix ++ chunk)) (sym all) (some refl), drop_all (size + 1) kept (omega (arith, has.2))))

first_of : (prefix kept chunk line rest : List ℕ) (ended : Bool) (left : Option (List ℕ)) → HasNoFeed prefix → HasNoFeed chunk → EndsChunk prefix kept chunk rest ended left → line ≡ without_return (prefix ++ chunk) → FirstLine (prefix ++ kept) line rest ended left
first_of prefix kept chunk line rest ended left before none ends is = record {
  chunk = prefix ++ chunk;
  line_is = is;
  no_feed = All-append is_plain prefix chunk before none;
  ends = elim ends [
    | inl feed ↦ inl (feed.0, ap (λ k. prefix ++ k) feed.1 ∙ sym (append_assoc prefix chunk (10 ∷ rest)))
    | inr end ↦ inr (end.0, end.1, ap (λ k. prefix ++ k) end.2, end.3, end.4)
  ];
}

none : HasNoFeed []
none = λ k d below. absurd (omega (arith, below))

-- the result for a piece is the result for all bytes not yet returned
gives_chunk : (passing : Bool) (kept chunk rest : List ℕ) (ended : Bool) (left : Option (List ℕ)) (next : Next) → HasNoFeed chunk → EndsChunk (if passing then passed else []) kept chunk rest ended left → Judges passing (without_return chunk) next
    → GivesNext ((if passing then passed else []) ++ kept) rest ended left (Ok next)
gives_chunk false kept chunk rest ended left (Line line) no_feed ends judged = (first_of [] kept chunk line.now rest ended left none no_feed ends judged.1, rw judged.1 judged.2)
gives_chunk false kept chunk rest ended left Long no_feed ends judged = (without_return chunk, first_of [] kept chunk _ rest ended left none no_feed ends refl, elim judged [ inl p ↦ cc | inr p ↦ p ])
gives_chunk true kept chunk rest ended left (Line line) no_feed ends judged = cc
gives_chunk true kept chunk rest ended left Long no_feed ends judged = (without_return (passed ++ chunk), first_of passed kept chunk _ rest ended left passed-no_feed no_feed ends refl, long_after chunk)
gives_chunk _ kept chunk rest ended left End no_feed ends judged = absurd judged

-- the bytes not yet returned include at least one
some_byte : (passing : Bool) (kept : List ℕ) (size : ℕ) → size ≡ length kept → (size ≡ 0 → passing ≡ false → ⊥) → 0 < length ((if passing then passed else []) ++ kept)
some_byte true kept size is some = omega (arith, length-append passed kept, length-passed)
some_byte false [] size is some = absurd (some is refl)
some_byte false (byte ∷ bytes) size is some = omega arith

-- the block after the first line was returned
pub record PassesLine (old new : BlocksView) (size : ℕ) : Type 0 where
  pub kept : new.kept ≡ drop (size + 1) old.kept
  pub plain : new.is_passing ≡ false
  pub ended : new.has_ended ≡ old.has_ended

pub gives_line : (old new : BlocksView) (size : ℕ) (left : Option (List ℕ)) (next : Next) → HasLine old.kept size old.has_ended left → PassesLine old new size → (old.has_ended ≡ true → size ≡ 0 → old.is_passing ≡ false → ⊥) → Judges old.is_passing (without_return (take size old.kept)) next
    → GivesNext (unanswered old) (unanswered new) new.has_ended left (Ok next)
gives_line old new size left next has passes some judged =
    let byte : old.has_ended ≡ true → 0 < length (unanswered old) = λ ended.
    let at_end : IsAtEnd left × HasNoFeed old.kept × (size ≡ length old.kept) = subst (λ e. HasLine old.kept size e left) ended has in
    some_byte old.is_passing old.kept size at_end.2 (some ended) in
    let ends = ends_chunk (if old.is_passing then passed else []) old.kept size old.has_ended left has byte in
    let rest : drop (size + 1) old.kept ≡ unanswered new = sym (unanswered_plain new passes.plain ∙ passes.kept) in
    let gives = gives_chunk old.is_passing old.kept (take size old.kept) (drop (size + 1) old.kept) old.has_ended left next ends.0 ends.1 judged in
    subst (λ e. GivesNext (unanswered old) (unanswered new) e left (Ok next)) (sym passes.ended) (subst (λ r. GivesNext (unanswered old) r old.has_ended left (Ok next)) rest gives)

-- the log has no further line
pub gives_end : (old new : BlocksView) (size : ℕ) (left : Option (List ℕ)) → HasLine old.kept size old.has_ended left → PassesLine old new size → old.has_ended ≡ true → size ≡ 0 → old.is_passing ≡ false → GivesNext (unanswered old) (unanswered new) new.has_ended left (Ok End)
gives_end old new size left has passes ended no_byte plain =
    let at_end : IsAtEnd left × HasNoFeed old.kept × (size ≡ length old.kept) = subst (λ e. HasLine old.kept size e left) ended has in
    let nothing : old.kept ≡ [] = drop_all 0 old.kept (omega (arith, at_end.2, no_byte)) in
    (at_end.0, passes.ended ∙ ended, unanswered_plain old plain ∙ nothing, unanswered_plain new passes.plain ∙ passes.kept ∙ ap (drop (size + 1)) nothing ∙ drop_all {X = ℕ} (size + 1) [] (omega arith))

-- no line ends in the bytes not yet returned if none ends in the kept bytes
pub unanswered-no_feed : (held : BlocksView) → HasNoFeed held.kept → HasNoFeed (unanswered held)
unanswered-no_feed held none =
    let P : Bool → Type 0 = λ b. HasNoFeed ((if b then passed else []) ++ held.kept) in
    let split : (b : Bool) → P b = λ b. elim b as P [ true ↦ All-append is_plain passed held.kept passed-no_feed none | false ↦ none ] in
    split held.is_passing

-- while a long line is skipped, or if the block is full, the kept bytes are discarded
pub lets_go : (held : BlocksView) (size : ℕ) → (held.is_passing ≡ true) ⊎ (length held.kept ≡ size) → longest_line + 1 < size → MakesRoom (unanswered held) (passed ++ [])
lets_go held size why long =
    let P : Bool → Type 0 = λ b. (b ≡ true) ⊎ (length held.kept ≡ size) → MakesRoom ((if b then passed else []) ++ held.kept) (passed ++ []) in
    let passing : (kept : List ℕ) → MakesRoom (passed ++ kept) (passed ++ []) = λ kept. elim kept as (λ k. MakesRoom (passed ++ k) (passed ++ [])) [
      | [] ↦ inl refl
      | byte ∷ bytes ↦ inr (omega (arith, length-append passed (byte ∷ bytes), length-passed), append-nil passed)
    ] in
    let split : (b : Bool) → P b = λ b. elim b as P [
      | true ↦ λ _. passing held.kept
      | false ↦ λ w. inr (elim w [ inl p ↦ cc | inr p ↦ omega (arith, p, long) ], append-nil passed)
    ] in
    split held.is_passing why

-- the first line is within the kept bytes
pub line_within : (kept : List ℕ) (size : ℕ) (ended : Bool) (left : Option (List ℕ)) → HasLine kept size ended left → size ≤ length kept
line_within kept size false left has = omega (arith, has.within)
line_within kept size true left has = omega (arith, has.2)

pub passes_line : (i : Inside) (old : BlocksView) (size m : ℕ) → block_view i ≡ old → HasPlaces i → length i.block ≡ 4096 → m ≡ min i.end (i.start + size + 1) → PassesLine old (block_view (record i { start = m; is_passing = false })) size
passes_line i old size m is places whole at = record {
  kept = range_rest i.block i.start i.end (size + 1) m places.kept_ends (omega (arith, places.kept_within, whole)) (at ∙ ap (min i.end) (let same : i.start + size + 1 ≡ i.start + (size + 1) = omega arith in same)) ∙ ap (λ (h : BlocksView). drop (size + 1) h.kept) is;
  plain = refl;
  ended = ap (λ (h : BlocksView). h.has_ended) is;
}

-- the result for the first bytes of the block
pub judges_line : (i : Inside) (old : BlocksView) (size : ℕ) (next : Next) → block_view i ≡ old → HasPlaces i → length i.block ≡ 4096 → size ≤ length old.kept → Judges i.is_passing (without_return (mid_of i.start (i.start + size - i.start) i.block)) next
    → Judges old.is_passing (without_return (take size old.kept)) next
judges_line i old size next is places whole few judged =
    let all = ap (λ (h : BlocksView). length h.kept) is in
    let within : size ≤ i.end - i.start = omega (arith, all, few, length-range i.block i.start i.end places.kept_ends (omega (arith, places.kept_within, whole))) in
    subst (λ (h : BlocksView). Judges h.is_passing (without_return (take size h.kept)) next) is
    (subst (λ text. Judges i.is_passing (without_return text) next) (range_take i.block i.start i.end size within) judged)
