-- The lines of bytes that are in memory, as they are taken, and their outcomes.
use Rattle.std.proofs.Common.{◌≡◌, inl, inr, ℕ, ◌+◌, Bool, List, [], ◌∷◌, ◌++◌, length, refl, sym, ap, ◌∙◌, subst, append_assoc, arith, length-append, Result, Err}
use Rattle.n2k_table.specs.Table.{TableParts}
use Rattle.n2k_join.specs.declared.counts.Counts.{Counts}
use Rattle.n2k_encode.specs.Encoded.{IsEncodedLine, IsLineCause, IsObjectOf}
use Rattle.n2k_encode.specs.Refusal.{CauseParts}
use Rattle.n2k_wire.specs.Packet.{PacketParts}
use Rattle.json.specs.Json.{Json}
use Rattle.n2k_run.specs.declared.fault.RunFault.{RunFault}
use Rattle.n2k_run.specs.declared.fault.RunFault.TheVariants.{Memory, Report, TooManyLines, Write}
use Rattle.n2k_run.specs.Inner.Engine.{FailsPending, WritesPending}
use Rattle.n2k_run.specs.Lines.{lines}
use Rattle.n2k_run.specs.Runs.{Devices}
use Rattle.n2k_run.specs.Writing.{AppendsPrefix}
use Rattle.n2k_run.proofs.Running.{all_gained, none_gained}
use Rattle.n2k_encode_run.specs.declared.ledger.Ledger.{Ledger}
use Rattle.n2k_encode_run.specs.More.{BreaksMore, EncodesMore, EncodingParts}
use Rattle.n2k_encode_run.specs.Outcomes.{Outcome, skipped, encoded, refused, Gives, GiveAll, reports_from, texts}
use Rattle.n2k_encode_run.specs.Inner.Taking.{TakesAll, TakesBefore, TakesLine, TakesLines}
use Rattle.n2k_encode_run.proofs.Feeding.{count_lines, takes_more}

-- ---- each line has one outcome

module _ (t : TableParts) (nearest : Bool) where
  one_object : (line : List ℕ) (j k : Json) → IsObjectOf line j → IsObjectOf line k → j ≡ k
  one_object line j k a b = let is = sym a.spelled ∙ b.spelled in cc

  one_message : (line : List ℕ) (p q : PacketParts) → IsEncodedLine t nearest line p → IsEncodedLine t nearest line q → p ≡ q
  one_message line p q a b =
      let same = one_object line a.object b.object a.is_object b.is_object in
      let first = a.encoded.determined in
      let second = b.encoded.determined in
      cc

  no_cause : (line : List ℕ) (p : PacketParts) (c : CauseParts) → IsEncodedLine t nearest line p → IsLineCause t nearest line c → ⊥
  no_cause line p c a why = elim why [
    | inl none ↦ none.0 a.object a.is_object
    | inr (j, is, gives) ↦
        let same = one_object line a.object j a.is_object is in
        let first = a.encoded.determined in
        cc
  ]

  one_cause : (line : List ℕ) (c d : CauseParts) → IsLineCause t nearest line c → IsLineCause t nearest line d → c ≡ d
  one_cause line c d a b = elim a [
    | inl none ↦ elim b [ inl other ↦ none.1 ∙ sym other.1 | inr (j, is, gives) ↦ absurd (none.0 j is) ]
    | inr (j, is, gives) ↦ elim b [
      | inl none ↦ absurd (none.0 j is)
      | inr (k, is', gives') ↦ let same = one_object line j k is is' in cc
    ]
  ]

  one_outcome : (line : List ℕ) (o p : Outcome) → Gives t nearest line o → Gives t nearest line p → o ≡ p
  one_outcome line skipped skipped a b = refl
  one_outcome line skipped (encoded q) a b = let yes = a.1 in let no = b.1 in cc
  one_outcome line skipped (refused d) a b = elim b [ inl x ↦ absurd (omega (arith, x.0, a.0)) | inr x ↦ let yes = a.1 in let no = x.1 in cc ]
  one_outcome line (encoded p) skipped a b = let no = a.1 in let yes = b.1 in cc
  one_outcome line (encoded p) (encoded q) a b = ap encoded (one_message line p q a.2 b.2)
  one_outcome line (encoded p) (refused d) a b = elim b [ inl x ↦ absurd (omega (arith, x.0, a.0)) | inr x ↦ absurd (no_cause line p d a.2 x.2) ]
  one_outcome line (refused c) skipped a b = elim a [ inl x ↦ absurd (omega (arith, x.0, b.0)) | inr x ↦ let yes = b.1 in let no = x.1 in cc ]
  one_outcome line (refused c) (encoded q) a b = elim a [ inl x ↦ absurd (omega (arith, x.0, b.0)) | inr x ↦ absurd (no_cause line q c b.2 x.2) ]
  one_outcome line (refused c) (refused d) a b = elim a [
    | inl x ↦ elim b [ inl y ↦ ap refused (x.1 ∙ sym y.1) | inr y ↦ absurd (omega (arith, x.0, y.0)) ]
    | inr x ↦ elim b [ inl y ↦ absurd (omega (arith, y.0, x.0)) | inr y ↦ ap refused (one_cause line c d x.2 y.2) ]
  ]

  pub outcomes_same : (ls : List (List ℕ)) (os ps : List Outcome) → GiveAll t nearest ls os → GiveAll t nearest ls ps → os ≡ ps
  outcomes_same [] [] [] a b = refl
  outcomes_same [] [] (p ∷ ps) a b = absurd b
  outcomes_same [] (o ∷ os) ps a b = absurd a
  outcomes_same (l ∷ ls) [] ps a b = absurd a
  outcomes_same (l ∷ ls) (o ∷ os) [] a b = absurd b
  outcomes_same (l ∷ ls) (o ∷ os) (p ∷ ps) a b =
      ap (λ x. x ∷ os) (one_outcome l o p a.0 b.0) ∙ ap (λ x. p ∷ x) (outcomes_same ls os ps a.1 b.1)

  pub as_many : (ls : List (List ℕ)) (os : List Outcome) → GiveAll t nearest ls os → length os ≡ length ls
  as_many [] [] given = refl
  as_many [] (o ∷ os) given = absurd given
  as_many (l ∷ ls) [] given = absurd given
  as_many (l ∷ ls) (o ∷ os) given = omega (arith, as_many ls os given.1)

  -- ---- the lines of bytes, one after the other

  module _ (bytes : List ℕ) (l : Ledger) where
    pub one_before : (left rest line : List ℕ) (l' l'' : Ledger) → TakesBefore t nearest bytes left l l' → lines left ≡ line ∷ lines rest → TakesLines t nearest (line ∷ []) l' l''
        → TakesBefore t nearest bytes rest l l''
    one_before left rest line l' l'' b is taken = record {
      before = b.before ++ (line ∷ []);
      split = b.split ∙ ap (λ ls. b.before ++ ls) is ∙ sym (append_assoc b.before (line ∷ []) (lines rest));
      taken = takes_more t nearest b.before (line ∷ []) l l' l'' b.taken taken;
    }

    pub fault_before : (left rest line : List ℕ) (l' l'' : Ledger) (fault : RunFault) → TakesBefore t nearest bytes left l l' → lines left ≡ line ∷ lines rest → TakesLine {T = Unit {0}} t nearest line l' l'' (Err fault)
        → TakesAll {T = Unit {0}} t nearest bytes l l'' (Err fault)
    fault_before left rest line l' l'' TooManyLines b is taken =
        let counted : l'.counts.lines ≡ l.counts.lines + length b.taken.outcomes = ap (λ (c : Counts). c.lines) b.taken.counted ∙ count_lines l.counts b.taken.outcomes in
        let many : length b.taken.outcomes ≡ length b.before = as_many b.before b.taken.outcomes b.taken.given in
        let all : length (lines bytes) ≡ length b.before + length (line ∷ lines rest) = ap length (b.split ∙ ap (λ ls. b.before ++ ls) is) ∙ length-append b.before (line ∷ lines rest) in
        omega (arith, counted, many, all, taken.1)
    fault_before left rest line l' l'' Memory b is taken = tt
    fault_before left rest line l' l'' _ b is taken = absurd taken

-- ---- `Encoding`

module _ (t : TableParts) (more : List ℕ) (old : EncodingParts) (l l' : Ledger) (counted : l.counts ≡ old.counts) (no_text : l.text.items ≡ []) (no_report : l.report.items ≡ [])
    (takes : TakesLines t old.nearest (lines more) l l') (before after : Devices) where
  abbrev Written : Result (Unit {0}) RunFault → Type 0
  Written r = WritesPending l'.text.items l'.report.items before.written after.written before.reported after.reported r

  text_is : l'.text.items ≡ texts takes.outcomes
  text_is = takes.text_is ∙ ap (λ x. x ++ texts takes.outcomes) no_text

  report_is : l'.report.items ≡ reports_from (old.counts.lines + 1) takes.outcomes
  report_is = takes.report_is ∙ ap (λ x. x ++ reports_from (l.counts.lines + 1) takes.outcomes) no_report ∙ ap (λ (c : Counts). reports_from (c.lines + 1) takes.outcomes) counted

  breaks : (new : EncodingParts) → new ≡ old → AppendsPrefix before.written after.written l'.text.items → AppendsPrefix before.reported after.reported l'.report.items → BreaksMore t more old new before after
  breaks new same printed reported = record {
    outcomes = takes.outcomes;
    given = takes.given;
    printed = subst (AppendsPrefix before.written after.written) text_is printed;
    reported = subst (AppendsPrefix before.reported after.reported) report_is reported;
    same = same;
  }

  pub unwritten : (fault : RunFault) (new : EncodingParts) → new ≡ old → Written (Err fault)
      → FailsPending {T = Unit {0}} before.failed_writes after.failed_writes before.failed_reports after.failed_reports (Err fault) → EncodesMore {T = Unit {0}} t more old new before after (Err fault)
  unwritten Write new same written fails = (breaks new same written.0 (all_gained before.reported after.reported l'.report.items written.1), fails.0)
  unwritten Report new same written fails = (breaks new same (subst (λ w. AppendsPrefix before.written w l'.text.items) (sym written.0) (none_gained before.written l'.text.items)) written.1, fails.0)
  unwritten _ new same written fails = absurd written
