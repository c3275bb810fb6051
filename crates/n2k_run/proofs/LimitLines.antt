-- The bytes of the lines that were taken, if a log has more lines.
use Rattle.std.proofs.Common.{◌≡◌, inl, inr, ℕ, ◌<◌, Bool, true, false, List, [], ◌∷◌, ◌++◌, length, map, refl, sym, ap, ◌∙◌, subst, append_assoc, arith, length-append, ◌⊎◌, eqb-true}
use Rattle.std.specs.Io.{IsEmptyOrEndsWith}
use Rattle.std.proofs.lemmas.List.{append-nil, get_or-append_right}
use Rattle.std.proofs.lemmas.List.Elements.{All-cons}
use Rattle.n2k_wire.specs.declared.entry.Entry.{Entry}
use Rattle.n2k_wire.specs.declared.entry.Packing.{Packing}
use Rattle.n2k_wire.specs.Entry.{entry}
use Rattle.n2k_run.specs.Blocks.{HasNoFeed}
use Rattle.n2k_run.specs.Entries.{entries}
use Rattle.n2k_run.specs.Lines.{line_feed, is_line_feed, without_return}
use Rattle.n2k_run.proofs.Answering.{lines_chunk, lines_rest}
use Rattle.n2k_run.proofs.Prefixes.{ends_feed}

-- bytes up to their first line feed, and the bytes after it
record FirstFeed (bytes : List ℕ) : Type 0 where
  pub chunk : List ℕ
  pub rest : List ℕ
  pub none : HasNoFeed chunk
  pub bytes_are : bytes ≡ chunk ++ (10 ∷ rest)

nothing : HasNoFeed []
nothing = λ k d below. absurd (omega (arith, below))

by_feed : (bytes : List ℕ) → HasNoFeed bytes ⊎ FirstFeed bytes
by_feed [] = inl nothing
by_feed (b ∷ bs) = go (is_line_feed b) refl (by_feed bs)
  where
    go : (f : Bool) → is_line_feed b ≡ f → HasNoFeed bs ⊎ FirstFeed bs → HasNoFeed (b ∷ bs) ⊎ FirstFeed (b ∷ bs)
    go true is tail = inr (record { chunk = []; rest = bs; none = nothing; bytes_are = ap (λ x. x ∷ bs) (eqb-true b 10 is) })
    go false is (inl none) = inl (All-cons (λ byte. is_line_feed byte ≡ false) b bs is none)
    go false is (inr f) = inr (record { chunk = b ∷ f.chunk; rest = f.rest; none = All-cons (λ byte. is_line_feed byte ≡ false) b f.chunk is f.none; bytes_are = ap (λ x. b ∷ x) f.bytes_are })

pub ends_on : (prefix bytes : List ℕ) → IsEmptyOrEndsWith prefix line_feed → IsEmptyOrEndsWith bytes line_feed → IsEmptyOrEndsWith (prefix ++ bytes) line_feed
ends_on prefix [] first last = subst (λ x. IsEmptyOrEndsWith x line_feed) (sym (append-nil prefix)) first
ends_on prefix (y ∷ ys) first last = grind (arith, length-append, get_or-append_right)

-- the bytes of these entries' lines, with their line feeds, and the bytes after them
pub record TakenBytes (packing : Packing) (log : List ℕ) (es : List Entry) : Type 0 where
  pub bytes : List ℕ
  pub rest : List ℕ
  pub log_is : log ≡ bytes ++ rest
  pub more : 0 < length rest
  pub whole : IsEmptyOrEndsWith bytes line_feed
  pub entries_are : entries packing bytes ≡ es

-- a single line has no other after it
one_line : (packing : Packing) (log : List ℕ) (e next : Entry) (es more : List Entry) → HasNoFeed log → entries packing log ≡ e ∷ (es ++ (next ∷ more)) → ⊥
one_line packing [] e next es more none is = let bad : [] ≡ e ∷ (es ++ (next ∷ more)) = is in cc
one_line packing (b ∷ bs) e next es more none is = grind (arith, lines_rest (b ∷ bs) none (omega arith), length-append es (next ∷ more))

-- a log with a line has a byte
some_byte : (packing : Packing) (log : List ℕ) (next : Entry) (more : List Entry) → entries packing log ≡ next ∷ more → 0 < length log
some_byte packing [] next more is = let bad : [] ≡ next ∷ more = is in cc
some_byte packing (b ∷ bs) next more is = omega arith

pub taken_bytes : (packing : Packing) (es : List Entry) (log : List ℕ) (next : Entry) (more : List Entry) → entries packing log ≡ es ++ (next ∷ more) → TakenBytes packing log es
taken_bytes packing [] log next more is = record { bytes = []; rest = log; log_is = refl; more = some_byte packing log next more is; whole = λ some. absurd (omega (arith, some)); entries_are = refl }
taken_bytes packing (e ∷ es) log next more is = go (by_feed log) (λ rest later. taken_bytes packing es rest next more later)
  where
    feed : FirstFeed log → ((rest : List ℕ) → entries packing rest ≡ es ++ (next ∷ more) → TakenBytes packing rest es) → TakenBytes packing log (e ∷ es)
    feed f fewer =
        let of_chunk : (rest : List ℕ) → entries packing (f.chunk ++ (10 ∷ rest)) ≡ entry (without_return f.chunk) packing ∷ entries packing rest
        = λ rest. ap (map (λ line. entry line packing)) (lines_chunk f.chunk rest f.none) in
        let both : entry (without_return f.chunk) packing ∷ entries packing f.rest ≡ e ∷ (es ++ (next ∷ more)) = sym (of_chunk f.rest) ∙ ap (entries packing) (sym f.bytes_are) ∙ is in
        let first : entry (without_return f.chunk) packing ≡ e = cc in
        let later : entries packing f.rest ≡ es ++ (next ∷ more) = cc in
        let r = fewer f.rest later in
        record {
          bytes = f.chunk ++ (10 ∷ r.bytes);
          rest = r.rest;
          log_is = f.bytes_are ∙ ap (λ x. f.chunk ++ (10 ∷ x)) r.log_is ∙ sym (append_assoc f.chunk (10 ∷ r.bytes) r.rest);
          more = r.more;
          whole = subst (λ x. IsEmptyOrEndsWith x line_feed) (append_assoc f.chunk (10 ∷ []) r.bytes) (ends_on (f.chunk ++ (10 ∷ [])) r.bytes (ends_feed f.chunk) r.whole);
          entries_are = of_chunk r.bytes ∙ ap (λ x. x ∷ entries packing r.bytes) first ∙ ap (λ xs. e ∷ xs) r.entries_are;
        }

    go : HasNoFeed log ⊎ FirstFeed log → ((rest : List ℕ) → entries packing rest ≡ es ++ (next ∷ more) → TakenBytes packing rest es) → TakenBytes packing log (e ∷ es)
    go h fewer = grind (arith, one_line, feed)
