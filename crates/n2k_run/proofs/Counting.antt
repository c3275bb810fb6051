-- The output of a run whose only state is its counts.
use Rattle.std.proofs.Common.{◌≡◌, ℕ, ◌+◌, ◌<◌, Bool, cond, List, [], ◌∷◌, ◌++◌, length, refl, ap, arith, zero-add, count_by, if◌then◌else◌}
use Rattle.std.specs.List.{flat_map}
use Rattle.std.proofs.lemmas.List.Sums.{sum_by-cons}
use Rattle.n2k_wire.specs.declared.entry.Entry.{Entry}
use Rattle.n2k_join.specs.declared.counts.Counts.{Counts}
use Rattle.n2k_join.specs.Counts.{most_lines}
use Rattle.n2k_run.specs.Entries.{is_bad}
use Rattle.n2k_run.specs.Fold.{after_all, texts_from, reports_from}
use Rattle.n2k_run.specs.Reports.{bad_report, bad_reports_from}
use Rattle.n2k_run.specs.Inner.Counting.{counting_fold, line_counts_after, all_line_counts_after}
use Rattle.n2k_run.specs.Inner.Engine.{MovesOn}

counts_are : (l m b u l' m' b' u' : ℕ) → l ≡ l' → m ≡ m' → b ≡ b' → u ≡ u' → (c : Counts) → record c { lines = l; messages = m; bad = b; unknown = u } ≡ record c { lines = l'; messages = m'; bad = b'; unknown = u' }
counts_are l m b u l' m' b' u' p q r v c = rw (p, q, r, v) refl

pub one_more : (test : Entry → Bool) (n : ℕ) (e : Entry) (es : List Entry) → (n + cond (test e) 1 0) + count_by test es ≡ n + count_by test (e ∷ es)
one_more test n e es = omega (arith, sum_by-cons (λ x. cond (test x) 1 0) e es)

module _ (text : Entry → List ℕ) (p q : Entry → Bool) where
  -- an entry was taken
  pub moves : (c : Counts) (x : Entry) (m b u : ℕ) (t t' r r' : List ℕ) → m ≡ c.messages + (if p x then 1 else 0) → b ≡ c.bad + (if is_bad x then 1 else 0) → u ≡ c.unknown + (if q x then 1 else 0)
      → t' ≡ t ++ text x → r' ≡ r ++ bad_report (c.lines + 1) x → c.lines < most_lines
      → MovesOn (counting_fold text p q) c (record c { lines = c.lines + 1; messages = m; bad = b; unknown = u }) x t t' r r'
  moves c x m b u t t' r r' messages bad unknown texts reports few = grind arith

  pub texts_are : (c : Counts) (es : List Entry) → texts_from (counting_fold text p q) c es ≡ flat_map text es
  texts_are c [] = refl
  texts_are c (e ∷ es) = ap (λ t. text e ++ t) (texts_are (line_counts_after p q c e) es)

  pub reports_are : (c : Counts) (n : ℕ) (es : List Entry) → n ≡ c.lines + 1 → reports_from (counting_fold text p q) c es ≡ bad_reports_from n es
  reports_are c n [] is = refl
  reports_are c n (e ∷ es) is = rw is (ap (λ r. bad_report (c.lines + 1) e ++ r) (reports_are (line_counts_after p q c e) (c.lines + 1 + 1) es refl))

  pub counts_after : (c : Counts) (es : List Entry) → after_all (counting_fold text p q) c es ≡ all_line_counts_after p q c es
  counts_after c [] = counts_are c.lines c.messages c.bad c.unknown _ _ _ _ (omega arith) (omega arith) (omega arith) (omega arith) c
  counts_after c (e ∷ es) = grind (arith, counts_after (line_counts_after p q c e) es, one_more p c.messages e es, one_more is_bad c.bad e es, one_more q c.unknown e es, counts_are)

  -- a run from the start
  pub counts_from_none : (es : List Entry) → after_all (counting_fold text p q) (record { lines = 0; messages = 0; bad = 0; unknown = 0; broken = 0; held = 0 }) es ≡ record { lines = length es; messages = count_by p es; bad = count_by is_bad es; unknown = count_by q es; broken = 0; held = 0 }
  counts_from_none es = grind (arith, counts_after, zero-add)
