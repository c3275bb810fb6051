-- A bad line and a skipped line give the same, except in the count.
use Rattle.std.proofs.Common.{◌≡◌, ◌+◌, ℕ, suc, zero, Bool, true, false, cond, List, [], ◌∷◌, ◌++◌, length, refl, sym, ap, ◌∙◌, arith, Option, None, option_and_then, slice_get, is_some, sum_by, count_by, length-append}
use Rattle.std.specs.List.{cons_option, range_with_len}
use Rattle.std.proofs.lemmas.List.Sums.{sum_by-cons, sum_by-append}
use Rattle.n2k_wire.specs.declared.entry.Entry.{Entry}
use Rattle.n2k_wire.specs.declared.entry.Entry.TheVariants as entries
use Rattle.n2k_table.specs.declared.definition.Kind.{Kind}
use Rattle.n2k_join.specs.Frames.{fast_frame, frame_in, frames_from, frames}
use Rattle.n2k_join.specs.Messages.{alone, cause_in, is_unknown, message, broken_with, broken, counts}
use Rattle.n2k_join.specs.Open.{open_within}
use Rattle.n2k_join.specs.Laws.{BadAlone}
use Rattle.n2k_join.specs.Window.{Window}

-- an entry that gives nothing but its cause
record IsNothing (kind : ℕ → Option Kind) (e : Entry) : Type 0 where
  no_frame : (line : ℕ) → frame_in kind line e ≡ None
  no_message : alone kind e ≡ None
  known : is_unknown kind e ≡ false

bad-nothing : (kind : ℕ → Option Kind) (e : Entry) → is_some (cause_in kind e) ≡ true → IsNothing kind e
unfolding fast_frame
bad-nothing kind e bad = grind arith

module _ (w : Window) (kind : ℕ → Option Kind) (e : Entry) (nothing : IsNothing kind e) where
  frames_from-same : (n : ℕ) (prefix back : List Entry) → frames_from kind n (prefix ++ e ∷ back) ≡ frames_from kind n (prefix ++ entries.Skip ∷ back)
  frames_from-same n [] back = ap (λ o. cons_option o (frames_from kind (n + 1) back)) (nothing.no_frame n)
  frames_from-same n (f ∷ prefix) back = ap (cons_option (frame_in kind n f)) (frames_from-same (n + 1) prefix back)

  alone-same : (prefix back : List Entry) (i : ℕ) → option_and_then (alone kind) (slice_get (prefix ++ e ∷ back) i) ≡ option_and_then (alone kind) (slice_get (prefix ++ entries.Skip ∷ back) i)
  alone-same [] back zero = nothing.no_message
  alone-same [] back (suc i) = refl
  alone-same (f ∷ prefix) back zero = refl
  alone-same (f ∷ prefix) back (suc i) = alone-same prefix back i

  message-same : (prefix back : List Entry) (i : ℕ) → message w kind (prefix ++ e ∷ back) i ≡ message w kind (prefix ++ entries.Skip ∷ back) i
  message-same prefix back i = grind (arith, frames_from-same, alone-same)

  broken-same : (prefix back : List Entry) (i : ℕ) → broken w kind (prefix ++ e ∷ back) i ≡ broken w kind (prefix ++ entries.Skip ∷ back) i
  broken-same prefix back i = ap (λ fs. broken_with w fs i) (frames_from-same 1 prefix back)

  length-same : (prefix back : List Entry) → length (prefix ++ e ∷ back) ≡ length (prefix ++ entries.Skip ∷ back)
  length-same prefix back = length-append prefix (e ∷ back) ∙ sym (length-append prefix (entries.Skip ∷ back))

  -- the count of a list of entries is the sum of the counts before, of and after this entry
  count-with : (p : Entry → Bool) (x : Entry) (prefix back : List Entry) → count_by p (prefix ++ x ∷ back) ≡ count_by p prefix + (cond (p x) 1 0 + count_by p back)
  count-with p x prefix back = sum_by-append (λ x. cond (p x) 1 0) prefix (x ∷ back) ∙ ap (λ n. count_by p prefix + n) (sum_by-cons (λ x. cond (p x) 1 0) x back)

  count-same : (p : Entry → Bool) (prefix back : List Entry) → p e ≡ p entries.Skip → count_by p (prefix ++ e ∷ back) ≡ count_by p (prefix ++ entries.Skip ∷ back)
  count-same p prefix back same = grind (arith, count-with)

  count-one : (p : Entry → Bool) (prefix back : List Entry) → p e ≡ true → p entries.Skip ≡ false → count_by p (prefix ++ e ∷ back) ≡ count_by p (prefix ++ entries.Skip ∷ back) + 1
  count-one p prefix back counts_it not_skip = grind (arith, count-with)

  open-same : (prefix back : List Entry) → open_within w (length (prefix ++ e ∷ back)) (frames kind (prefix ++ e ∷ back)) ≡ open_within w (length (prefix ++ entries.Skip ∷ back)) (frames kind (prefix ++ entries.Skip ∷ back))
  open-same prefix back = λ i. open_within w (length-same prefix back i) (frames_from-same 1 prefix back i)

  counts-same : (prefix back : List Entry) → is_some (cause_in kind e) ≡ true → counts w kind (prefix ++ e ∷ back) ≡ record (counts w kind (prefix ++ entries.Skip ∷ back)) { bad = (counts w kind (prefix ++ entries.Skip ∷ back)).bad + 1 }
  counts-same prefix back bad = λ i. record {
    lines = length-same prefix back i;
    messages = count_by (λ line. is_some (message-same prefix back line i)) (range_with_len 1 (length-same prefix back i));
    bad = count-one (λ e. is_some (cause_in kind e)) prefix back bad refl i;
    unknown = count-same (is_unknown kind) prefix back nothing.known i;
    broken = sum_by (λ line. length (broken-same prefix back line i)) (range_with_len 1 (length-same prefix back i));
    held = length (open-same prefix back i);
  }

pub bad_alone : (w : Window) (kind : ℕ → Option Kind) (prefix : List Entry) (e : Entry) (back : List Entry) → is_some (cause_in kind e) ≡ true → BadAlone w kind prefix e back
bad_alone w kind prefix e back bad = grind (arith, bad-nothing, message-same, broken-same, open-same, counts-same)
