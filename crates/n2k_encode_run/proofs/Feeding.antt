-- The lines of bytes that come in parts, as they are taken.
use Rattle.std.proofs.Common.{◌≡◌, ◌==◌, inl, inr, ℕ, ◌+◌, ◌<◌, ◌≤◌, Bool, false, List, [], ◌∷◌, ◌++◌, length, take, drop, refl, sym, ap, ◌∙◌, subst, append_assoc, append-nil, arith, length-append, length-take, Result, Ok, Err}
use Rattle.std.specs.Io.{IsEmptyOrEndsWith}
use Rattle.std.proofs.lemmas.Bool.{cases_lt}
use Rattle.std.proofs.lemmas.Bool.Decides.{nat_tests}
use Rattle.std.proofs.lemmas.Grind.{flat_map-append}
use Rattle.std.proofs.lemmas.List.{take_all, take-append-le, take-take}
use Rattle.std.proofs.lemmas.List.Elements.{All-append}
use Rattle.n2k_table.specs.Table.{TableParts}
use Rattle.n2k_join.specs.declared.counts.Counts.{Counts}
use Rattle.n2k_encode.specs.declared.refusal.EncodeError.{EncodeError}
use Rattle.n2k_encode.specs.declared.refusal.EncodeError.TheVariants.{Refused}
use Rattle.n2k_encode.specs.declared.refusal.Refusal.{Refusal}
use Rattle.n2k_encode.specs.declared.refusal.Refusal.TheVariants.{Long}
use Rattle.n2k_encode.specs.Encoded.{longest_request}
use Rattle.n2k_encode.specs.Refusal.{cause, long as long_line}
use Rattle.n2k_run.specs.declared.fault.RunFault.{RunFault}
use Rattle.n2k_run.specs.declared.fault.RunFault.TheVariants.{Memory, TooManyLines}
use Rattle.n2k_run.specs.Blocks.{HasNoFeed}
use Rattle.n2k_run.specs.Inner.Block.{EndsAt}
use Rattle.n2k_run.specs.Lines.{line_feed, lines, without_return}
use Rattle.n2k_run.proofs.Answering.{lines_chunk, lines_rest}
use Rattle.n2k_run.proofs.Feeds.{is_plain}
use Rattle.n2k_run.proofs.Prefixes.{ends_feed}
use Rattle.n2k_run.proofs.Splits.{lines-append}
use Rattle.n2k_encode_run.specs.declared.ledger.Ledger.{Ledger}
use Rattle.n2k_encode_run.specs.Outcomes.{Outcome, skipped, encoded, refused, Gives, GiveAll, count_one, counts_after, report_of, reports_from, text_of, texts}
use Rattle.n2k_encode_run.specs.Inner.Taking.{FeedsBytes, FeedsRest, TakesBytes, TakesLine, TakesLines, most_kept}

-- a carriage return is one byte
pub return_once : (chunk : List ℕ) → length chunk ≤ length (without_return chunk) + 1
return_once chunk = grind (arith, length-take)

-- the prefix of a line can be cut from its kept prefix and the bytes after it
pub prefix_of_prefix : (n : ℕ) (part more : List ℕ) → take n (take n part ++ more) ≡ take n (part ++ more)
prefix_of_prefix n part more = elim (cases_lt n (length part)) [
  | inl over ↦ take-append-le n (take n part) more (omega (arith, over, length-take n part)) ∙ take-take n n part (omega arith) ∙ sym (take-append-le n part more (omega (arith, over)))
  | inr within ↦ ap (λ p. take n (p ++ more)) (take_all n part within)
]

pub reports_append : (n : ℕ) (os ps : List Outcome) → reports_from n (os ++ ps) ≡ reports_from n os ++ reports_from (n + length os) ps
reports_append n [] ps = ap (λ k. reports_from k ps) (omega arith)
reports_append n (o ∷ os) ps =
    let from : n + 1 + length os ≡ n + length (o ∷ os) = omega arith in
    ap (λ x. report_of n o ++ x) (reports_append (n + 1) os ps ∙ ap (λ k. reports_from (n + 1) os ++ reports_from k ps) from) ∙ sym (append_assoc (report_of n o) (reports_from (n + 1) os) _)

pub counts_append : (c : Counts) (os ps : List Outcome) → counts_after (counts_after c os) ps ≡ counts_after c (os ++ ps)
counts_append c [] ps = refl
counts_append c (o ∷ os) ps = counts_append (count_one c o) os ps

-- each line counts
pub count_lines : (c : Counts) (os : List Outcome) → (counts_after c os).lines ≡ c.lines + length os
count_lines c [] = omega arith
count_lines c (skipped ∷ os) = omega (arith, count_lines (count_one c skipped) os)
count_lines c (encoded p ∷ os) = omega (arith, count_lines (count_one c (encoded p)) os)
count_lines c (refused x ∷ os) = omega (arith, count_lines (count_one c (refused x)) os)

module _ (t : TableParts) (nearest : Bool) where
  pub give_all_append : (ls ms : List (List ℕ)) (os ps : List Outcome) → GiveAll t nearest ls os → GiveAll t nearest ms ps → GiveAll t nearest (ls ++ ms) (os ++ ps)
  give_all_append [] ms [] ps a b = b
  give_all_append [] ms (o ∷ os) ps a b = absurd a
  give_all_append (l ∷ ls) ms [] ps a b = absurd a
  give_all_append (l ∷ ls) ms (o ∷ os) ps a b = (a.0, give_all_append ls ms os ps a.1 b)

  -- all lines that are too long give the same
  gives_long : (line line' : List ℕ) (o : Outcome) → longest_request < length line → longest_request < length line' → Gives t nearest line o → Gives t nearest line' o
  gives_long line line' skipped long long' gives = absurd (omega (arith, long, gives.0))
  gives_long line line' (encoded p) long long' gives = absurd (omega (arith, long, gives.0))
  gives_long line line' (refused c) long long' gives = elim gives [ inl g ↦ inl (long', g.1) | inr g ↦ absurd (omega (arith, long, g.0)) ]

  -- a line has the outcome of its kept prefix
  pub gives_kept : (chunk : List ℕ) (o : Outcome) → Gives t nearest (without_return (take most_kept chunk)) o → Gives t nearest (without_return chunk) o
  gives_kept chunk o gives = elim (cases_lt most_kept (length chunk)) [
    | inl over ↦ gives_long (without_return (take most_kept chunk)) (without_return chunk) o (omega (arith, over, return_once (take most_kept chunk), length-take most_kept chunk)) (omega (arith, over, return_once chunk)) gives
    | inr within ↦ subst (λ k. Gives t nearest (without_return k) o) (take_all most_kept chunk within) gives
  ]

  one_kept : (chunk : List ℕ) (os : List Outcome) → GiveAll t nearest (without_return (take most_kept chunk) ∷ []) os → GiveAll t nearest (without_return chunk ∷ []) os
  one_kept chunk [] given = absurd given
  one_kept chunk (o ∷ []) given = (gives_kept chunk o given.0, given.1)
  one_kept chunk (o ∷ p ∷ os) given = absurd given.1

  takes_kept : (kept chunk : List ℕ) (l l' : Ledger) → kept ≡ take most_kept chunk → TakesLines t nearest (without_return kept ∷ []) l l' → TakesLines t nearest (without_return chunk ∷ []) l l'
  takes_kept kept chunk l l' is takes = record {
    outcomes = takes.outcomes;
    given = one_kept chunk takes.outcomes (subst (λ k. GiveAll t nearest (without_return k ∷ []) takes.outcomes) is takes.given);
    counted = takes.counted;
    text_is = takes.text_is;
    report_is = takes.report_is;
  }

  -- so does its result
  pub takes_line_kept : (kept chunk : List ℕ) (l l' : Ledger) (r : Result (Unit {0}) RunFault) → kept ≡ take most_kept chunk → TakesLine t nearest (without_return kept) l l' r → TakesLine t nearest (without_return chunk) l l' r
  takes_line_kept kept chunk l l' (Ok x) is takes = takes_kept kept chunk l l' is takes
  takes_line_kept kept chunk l l' (Err TooManyLines) is takes = takes
  takes_line_kept kept chunk l l' (Err Memory) is takes = takes
  takes_line_kept kept chunk l l' (Err _) is takes = absurd takes

  pub takes_none : (l : Ledger) → TakesLines t nearest [] l l
  takes_none l = record {
    outcomes = [];
    given = tt;
    counted = refl;
    text_is = sym (append-nil l.text.items);
    report_is = sym (append-nil l.report.items);
  }

  pub takes_more : (ls ms : List (List ℕ)) (l l' l'' : Ledger) → TakesLines t nearest ls l l' → TakesLines t nearest ms l' l'' → TakesLines t nearest (ls ++ ms) l l''
  takes_more ls ms l l' l'' a b = record {
    outcomes = a.outcomes ++ b.outcomes;
    given = give_all_append ls ms a.outcomes b.outcomes a.given b.given;
    counted = b.counted ∙ ap (λ c. counts_after c b.outcomes) a.counted ∙ counts_append l.counts a.outcomes b.outcomes;
    text_is = b.text_is ∙ ap (λ x. x ++ texts b.outcomes) a.text_is ∙ append_assoc l.text.items (texts a.outcomes) (texts b.outcomes) ∙ ap (λ x. l.text.items ++ x) (sym (flat_map-append text_of a.outcomes b.outcomes));
    report_is =
        let from : l'.counts.lines + 1 ≡ l.counts.lines + 1 + length a.outcomes = omega (arith, ap (λ (c : Counts). c.lines) a.counted, count_lines l.counts a.outcomes) in
        b.report_is ∙ ap (λ n. l'.report.items ++ reports_from n b.outcomes) from ∙ ap (λ x. x ++ reports_from (l.counts.lines + 1 + length a.outcomes) b.outcomes) a.report_is
        ∙ append_assoc l.report.items (reports_from (l.counts.lines + 1) a.outcomes) _ ∙ ap (λ x. l.report.items ++ x) (sym (reports_append (l.counts.lines + 1) a.outcomes b.outcomes));
  }

  module _ (part bytes : List ℕ) where
    pub feed_begins : (kept : List ℕ) (l : Ledger) → HasNoFeed part → kept ≡ take most_kept part → TakesBytes t nearest part bytes bytes kept l l
    feed_begins kept l none is = record { prefix = []; rest = part; split = refl; ends = λ some. absurd (omega (arith, some)); no_feed = none; kept_is = is; taken = takes_none l }

    -- the kept prefix of a line that ends
    pub line_kept : (left kept mid : List ℕ) (size : ℕ) (l l' : Ledger) (fed : TakesBytes t nearest part bytes left kept l l') → mid ≡ take most_kept (kept ++ take size left) → mid ≡ take most_kept (fed.rest ++ take size left)
    line_kept left kept mid size l l' fed is = is ∙ ap (λ k. take most_kept (k ++ take size left)) fed.kept_is ∙ prefix_of_prefix most_kept fed.rest (take size left)

    -- a line more ends
    pub feeds_line : (left kept mid kept' : List ℕ) (size : ℕ) (l l' l'' : Ledger) → TakesBytes t nearest part bytes left kept l l' → EndsAt left size → mid ≡ take most_kept (kept ++ take size left) → kept' ≡ []
        → ((chunk : List ℕ) → mid ≡ take most_kept chunk → TakesLines t nearest (without_return chunk ∷ []) l' l'') → TakesBytes t nearest part bytes (drop (size + 1) left) kept' l l''
    feeds_line left kept mid kept' size l l' l'' fed at is none takes =
        let chunk : List ℕ = fed.rest ++ take size left in
        let line : List ℕ = chunk ++ (10 ∷ []) in
        let rest : List ℕ = drop (size + 1) left in
        let plain : HasNoFeed chunk = All-append is_plain fed.rest (take size left) fed.no_feed at.no_feed in
        let mid_is : mid ≡ take most_kept chunk = line_kept left kept mid size l l' fed is in
        let one : lines (fed.prefix ++ line) ≡ lines fed.prefix ++ (without_return chunk ∷ []) = lines-append fed.prefix line fed.ends ∙ ap (λ ls. lines fed.prefix ++ ls) (lines_chunk chunk [] plain) in
        record {
          prefix = fed.prefix ++ line;
          rest = [];
          split = fed.split ∙ ap (λ b. fed.prefix ++ (fed.rest ++ b)) at.split ∙ ap (λ b. fed.prefix ++ b) (sym (append_assoc fed.rest (take size left) (10 ∷ rest)) ∙ sym (append_assoc chunk (10 ∷ []) rest)) ∙ sym (append_assoc fed.prefix line rest);
          ends = subst (λ b. IsEmptyOrEndsWith b line_feed) (append_assoc fed.prefix chunk (10 ∷ [])) (ends_feed (fed.prefix ++ chunk));
          no_feed = λ k d below. absurd (omega (arith, below));
          kept_is = none ∙ sym (take_all most_kept [] (omega arith));
          taken = subst (λ ls. TakesLines t nearest ls l l'') (sym one) (takes_more _ _ l l' l'' fed.taken (takes chunk mid_is));
        }

    -- the bytes after the last line are kept
    pub feeds_end : (left kept kept' : List ℕ) (l l' : Ledger) → TakesBytes t nearest part bytes left kept l l' → HasNoFeed left → kept' ≡ take most_kept (kept ++ left) → TakesBytes t nearest part bytes [] kept' l l'
    feeds_end left kept kept' l l' fed none is = record {
      prefix = fed.prefix;
      rest = fed.rest ++ left;
      split = fed.split ∙ ap (λ b. fed.prefix ++ b) (sym (append-nil (fed.rest ++ left)));
      ends = fed.ends;
      no_feed = All-append is_plain fed.rest left fed.no_feed none;
      kept_is = is ∙ ap (λ k. take most_kept (k ++ left)) fed.kept_is ∙ prefix_of_prefix most_kept fed.rest left;
      taken = fed.taken;
    }

    -- its fault, if more bytes are left
    pub feeds_fault : (left kept kept' : List ℕ) (size : ℕ) (chunk : List ℕ) (l l' l'' : Ledger) (fault : RunFault) → TakesBytes t nearest part bytes left kept l l' → EndsAt left size → TakesLine {T = Unit {0}} t nearest chunk l' l'' (Err fault) → FeedsBytes {T = Unit {0}} t nearest part bytes kept' l l'' (Err fault)
    feeds_fault left kept kept' size chunk l l' l'' TooManyLines fed at most = record {
      prefix = fed.prefix;
      more = fed.rest ++ left;
      split = fed.split;
      ends = fed.ends;
      some = omega (arith, length-append fed.rest left, at.within);
      full = ap (λ (k : Ledger). k.counts.lines) most.0 ∙ most.1;
      taken = subst (TakesLines t nearest (lines fed.prefix) l) (sym most.0) fed.taken;
    }
    feeds_fault left kept kept' size chunk l l' l'' Memory fed at takes = tt
    feeds_fault left kept kept' size chunk l l' l'' _ fed at takes = absurd takes

  -- the part of a line at the end is a line
  pub rest_line : (part kept : List ℕ) (l l' : Ledger) → HasNoFeed part → kept ≡ take most_kept part → 0 < length kept → TakesLines t nearest (without_return part ∷ []) l l' → TakesLines t nearest (lines part) l l'
  rest_line part kept l l' none is some takes =
      let some' : 0 < length part = omega (arith, some, ap length is, length-take most_kept part) in
      subst (λ ls. TakesLines t nearest ls l l') (sym (lines_rest part none some')) takes

  -- or there is none
  pub rest_none : (part kept : List ℕ) (l : Ledger) → kept ≡ take most_kept part → length kept ≡ 0 → TakesLines t nearest (lines part) l l
  rest_none [] kept l is none = takes_none l
  rest_none (b ∷ part) kept l is none = absurd (omega (arith, none, ap length is, length-take most_kept (b ∷ part)))

  pub feeds_rest : (part kept : List ℕ) (l l' : Ledger) (r : Result (Unit {0}) RunFault) → HasNoFeed part → kept ≡ take most_kept part → 0 < length kept → TakesLine t nearest (without_return part) l l' r → FeedsRest t nearest part l l' r
  feeds_rest part kept l l' (Ok x) none is some takes = rest_line part kept l l' none is some takes
  feeds_rest part kept l l' (Err TooManyLines) none is some takes = (takes.0, takes.1, omega (arith, some, ap length is, length-take most_kept part))
  feeds_rest part kept l l' (Err Memory) none is some takes = tt
  feeds_rest part kept l l' (Err _) none is some takes = absurd takes

  -- the outcome of one line is taken
  pub one_line : (line : List ℕ) (o : Outcome) (l l' : Ledger) → Gives t nearest line o → l'.counts ≡ count_one l.counts o → l'.text.items ≡ l.text.items ++ text_of o → l'.report.items ≡ l.report.items ++ report_of (l.counts.lines + 1) o → TakesLines t nearest (line ∷ []) l l'
  one_line line o l l' gives counted text_is report_is = record {
    outcomes = o ∷ [];
    given = (gives, tt);
    counted = counted;
    text_is = text_is ∙ ap (λ x. l.text.items ++ x) (sym (append-nil (text_of o)));
    report_is = report_is ∙ ap (λ x. l.report.items ++ x) (sym (append-nil (report_of (l.counts.lines + 1) o)));
  }

-- the cause of a line that is too long
pub long_cause : {T : Type 0} (r : Refusal) (x : Result T EncodeError) → x ≡ Err (Refused r) → x ≡ Err (Refused Long) → cause r ≡ long_line
long_cause Long x is same = refl
long_cause _ x is same = cc

-- what is not empty has a byte
pub some_kept : (n : ℕ) → (n == 0) ≡ false → 0 < n
some_kept n is = grind (arith, nat_tests)
