-- Runs that begin at any line of a log.
use Rattle.std.proofs.Common.{◌≡◌, ℕ, ◌+◌, List, [], ◌∷◌, ◌++◌, length-append, Option, refl, sym, ap, ◌∙◌, arith}
use mathlib.Core.Path.{fun_ext}
use Rattle.std.specs.Io.{IsEmptyOrEndsWith}
use Rattle.n2k_wire.specs.declared.entry.Entry.{Entry}
use Rattle.n2k_table.specs.declared.definition.Kind.{Kind}
use Rattle.n2k_table.specs.Table.{TableParts, kind}
use Rattle.n2k_join.specs.AnyLine.{AreEnough, CanContinue, IsMoved, LeadsMoved, StepsMoved, state_from}
use Rattle.n2k_join.specs.State.{State, state, next_line, step_given, step_after}
use Rattle.n2k_run.specs.declared.options.Options.{Options}
use Rattle.n2k_run.specs.AnyLine.{PrintsSame, moved_fold}
use Rattle.n2k_run.specs.Decoded.{join_fold, message_line, out, output_after}
use Rattle.n2k_run.specs.Entries.{entries}
use Rattle.n2k_run.specs.Fold.{Fold, after_all, texts_from, reports_from}
use Rattle.n2k_run.specs.Lines.{line_feed}
use Rattle.n2k_run.specs.Reports.{line_report}
use Rattle.n2k_run.specs.Runs.{output_from}
use Rattle.n2k_run.proofs.Folds.{after-append}
use Rattle.n2k_run.proofs.Prefixes.{entries-append}
use Rattle.n2k_run.proofs.GoingOn.{output-on}
use Rattle.n2k_run.proofs.LimitLines.{ends_on}
use Rattle.n2k_run.proofs.LogSteps.{LogLaws, state_after, texts_after}

module _ (t : TableParts) (o : Options) where
  abbrev m : Fold State
  m = join_fold t o.empty

  after-is : (s : State) (es : List Entry) → after_all m s es ≡ state_from (kind t) s es
  after-is s [] = refl
  after-is s (e ∷ es) = after-is (step_after (kind t) s e) es

  -- two runs over the same entries, the second with `d` more lines before
  pub record Goes (d : ℕ) (s r : State) (es : List Entry) : Type 0 where
    pub texts : texts_from m r es ≡ texts_from (moved_fold d t o.empty) s es
    pub reports : reports_from m r es ≡ reports_from (moved_fold d t o.empty) s es
    pub leads : LeadsMoved d s (after_all m s es) r (after_all m r es)

  module _ (d : ℕ) (law : (kind : ℕ → Option Kind) (s r : State) (e : Entry) → CanContinue s → CanContinue r → IsMoved d s r → StepsMoved d kind s r e) where
    pub goes : (s r : State) (es : List Entry) → CanContinue s → CanContinue r → IsMoved d s r → Goes d s r es
    goes s r [] is also to = record { texts = refl; reports = refl; leads = record { moved = to; messages = omega arith; bad = omega arith; unknown = omega arith; broken = omega arith } }
    goes s r (e ∷ es) is also to =
        let one = law (kind t) s r e is also to in
        let a = one.leads in
        let rest = goes (step_after (kind t) s e) (step_after (kind t) r e) es one.continues one.also_continues a.moved in
        let b = rest.leads in
        let line : next_line r ≡ next_line s + d = omega (arith, to.lines) in
        let leads : LeadsMoved d s (after_all m s (e ∷ es)) r (after_all m r (e ∷ es)) = record { moved = b.moved; messages = omega (arith, a.messages, b.messages); bad = omega (arith, a.bad, b.bad); unknown = omega (arith, a.unknown, b.unknown); broken = omega (arith, a.broken, b.broken) } in
        record { texts = λ i. message_line t o.empty (one.given i).message ++ rest.texts i; reports = λ i. line_report (line i) (one.given i).broken (one.given i).cause ++ rest.reports i; leads = leads }

    pub outputs : (s r : State) → CanContinue s → CanContinue r → IsMoved d s r → output_from m o.packing r ≡ output_from (moved_fold d t o.empty) o.packing s
    outputs s r is also to = λ i. record { packing = o.packing; counted = to.lines i; texts = fun_ext (λ es. (goes s r es is also to).texts) i; reports = fun_ext (λ es. (goes s r es is also to).reports) i }

  module _ (law : (kind : ℕ → Option Kind) (s r : State) (last : List Entry) (e : Entry) → CanContinue s → CanContinue r → s.window ≡ r.window → AreEnough s.window last → (step_given kind (state_from kind s last) e).message ≡ (step_given kind (state_from kind r last) e).message) where
    pub texts-same : (s r : State) (last rest : List Entry) → CanContinue s → CanContinue r → s.window ≡ r.window → AreEnough s.window last → texts_from m (after_all m s last) rest ≡ texts_from m (after_all m r last) rest
    texts-same s r last [] is also window enough = refl
    texts-same s r last (e ∷ es) is also window enough =
        let next = λ (u : State). ap (λ v. texts_from m v es) (after-append m u last (e ∷ [])) in
        let enough' : AreEnough s.window (last ++ e ∷ []) = record { in_order = enough.in_order; long = omega (arith, enough.long, length-append last (e ∷ [])) } in
        let message = (λ i. (step_given (kind t) (after-is s last i) e).message) ∙ law (kind t) s r last e is also window enough ∙ (λ i. (step_given (kind t) (sym (after-is r last) i) e).message) in
        λ i. message_line t o.empty (message i) ++ (sym (next s) ∙ texts-same s r (last ++ e ∷ []) es is also window enough' ∙ next r) i

    -- the output of the rest of a log, after all lines before it and after some
    pub prints_same : LogLaws o.window → ((es : List Entry) → CanContinue (state t.id o.window (kind t) es)) → (before last rest : List ℕ) → IsEmptyOrEndsWith before line_feed → IsEmptyOrEndsWith last line_feed → AreEnough o.window (entries o.packing last) → PrintsSame t o (before ++ last) last rest
    prints_same laws can before last rest ends ends' enough =
        let b = entries o.packing before in
        let l = entries o.packing last in
        let es = entries o.packing rest in
        let texts = λ (prefix : List Entry). ap (λ s. texts_from m s es) (state_after t o laws t.id prefix l) ∙ texts_after t o laws t.id (prefix ++ l) es in
        let same = sym (texts b) ∙ texts-same (state t.id o.window (kind t) b) (state t.id o.window (kind t) []) l es (can b) (can []) refl enough ∙ texts [] in
        let after_both = output-on t o laws (before ++ last) (ends_on before last ends ends') rest ∙ ap (λ x. out t o (before ++ last) ++ x) (ap (λ f. (output_after t o f).texts es) (entries-append o.packing before last ends) ∙ same) in
        record { text = (output_after t o l).texts es; after_prefix = after_both; after_other = output-on t o laws last ends' rest }
