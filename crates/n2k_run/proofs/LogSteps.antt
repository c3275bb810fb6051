-- The steps of a join over a log's lines give the output of the whole log.
use Rattle.std.proofs.Common.{◌≡◌, ℕ, ◌+◌, ◌<◌, ◌≤◌, Bool, List, [], ◌∷◌, ◌++◌, length, Option, Some, refl, sym, ap, ◌∙◌, subst, append_assoc, append-nil, length-append, arith, option_and_then, option_to_list, slice_get, IfSome}
use Rattle.std.specs.List.{flat_map, range_with_len}
use Rattle.n2k_wire.specs.declared.entry.Entry.{Entry}
use Rattle.n2k_table.specs.declared.definition.Kind.{Kind}
use Rattle.n2k_table.specs.Table.{TableParts, kind}
use Rattle.n2k_join.specs.declared.step.Step.{Step}
use Rattle.n2k_join.specs.declared.step.TableMessage.{TableMessage}
use Rattle.n2k_join.specs.Counts.{most_lines}
use Rattle.n2k_join.specs.Step.{given_of}
use Rattle.n2k_join.specs.Laws.{StepsAgree, LinesStay}
use Rattle.n2k_join.specs.Messages.{message, broken, cause_in, entry_at}
use Rattle.n2k_join.specs.State.{Given, State, state, step_after, step_given}
use Rattle.n2k_run.specs.declared.options.Options.{Options}
use Rattle.n2k_run.specs.Decoded.{cause_at, join_fold, message_line, numbers_after, output_after, report_at, text_of_line}
use Rattle.n2k_run.specs.Fold.{after_all, given_from, texts_from, reports_from}
use Rattle.n2k_run.specs.Reports.{broken_text, cause_report, line_report}
use Rattle.n2k_join.specs.Window.{Window, IsWindow}
use Rattle.n2k_run.specs.Inner.Engine.{MovesOn}
use Rattle.n2k_run.specs.Inner.Overdue.{BreaksOverdue}
use Rattle.n2k_run.specs.Runs.{output_from}
use Rattle.n2k_run.proofs.Ending.{output_same}

-- a line more is counted
lines_after : (k : ℕ → Option Kind) (s : State) (e : Entry) → (step_after k s e).counts.lines ≡ s.counts.lines + 1
unfolding step_after
lines_after k s e = refl

-- An entry was taken by the join, after the groups were broken whose window ends at its line, and texts were made of
-- both results.
pub join_moves : (t : TableParts) (empty : Bool) (s mid s' : State) (e : Entry) (step : Step) (n : ℕ) (text text' report due told report' : List ℕ) → n ≡ s'.counts.lines → given_of step ≡ step_given (kind t) mid e → s' ≡ step_after (kind t) mid e → mid.counts.lines < most_lines
    → BreaksOverdue s mid report due → told ≡ due ++ flat_map (broken_text n) (option_to_list step.broken) → report' ≡ told ++ cause_report n step.bad → text' ≡ text ++ message_line t empty step.message
    → MovesOn (join_fold t empty) s s' e text text' report report'
join_moves t empty s mid s' e step n text text' report due told report' number given after few overdue broken cause message =
    let counted : s'.counts.lines ≡ mid.counts.lines + 1 = ap (λ (x : State). x.counts.lines) after ∙ lines_after (kind t) mid e in
    let same : mid.counts.lines ≡ s.counts.lines = overdue.same_lines in
    let line : n ≡ s.counts.lines + 1 = number ∙ counted ∙ ap (λ l. l + 1) same in
    let b : option_to_list step.broken ≡ (step_given (kind t) mid e).broken = ap (λ (g : Given). g.broken) given in
    let c : step.bad ≡ (step_given (kind t) s e).cause = ap (λ (g : Given). g.cause) given ∙ sym (overdue.cause (kind t) e) in
    let m : step.message ≡ (step_given (kind t) s e).message = ap (λ (g : Given). g.message) given ∙ sym (overdue.message (kind t) e) in
    let groups : told ≡ report ++ flat_map (broken_text (s.counts.lines + 1)) (step_given (kind t) s e).broken =
    broken
    ∙ ap (λ n. due ++ flat_map (broken_text n) (option_to_list step.broken)) line
    ∙ ap (λ g. due ++ flat_map (broken_text (s.counts.lines + 1)) g) b
    ∙ sym (overdue.broken (kind t) e) in
    record {
      state_after = after ∙ sym (overdue.after (kind t) e);
      text_after = message ∙ ap (λ x. text ++ message_line t empty x) m;
      report_after =
          cause ∙ ap (λ r. r ++ cause_report n step.bad) groups
          ∙ append_assoc report (flat_map (broken_text (s.counts.lines + 1)) (step_given (kind t) s e).broken) (cause_report n step.bad)
          ∙ ap (λ n. report ++ (flat_map (broken_text (s.counts.lines + 1)) (step_given (kind t) s e).broken ++ cause_report n step.bad)) line
          ∙ ap (λ g. report ++ line_report (s.counts.lines + 1) (step_given (kind t) s e).broken g) c;
      counted = counted ∙ ap (λ l. l + 1) same;
      few = subst (λ l. l < most_lines) same few;
    }

at_place : (prefix : List Entry) (e : Entry) (es : List Entry) → slice_get (prefix ++ e ∷ es) (length prefix) ≡ Some e
at_place [] e es = refl
at_place (b ∷ prefix) e es = at_place prefix e es

-- the entry of the line after these
entry_next : (prefix : List Entry) (e : Entry) (es : List Entry) → entry_at (prefix ++ e ∷ es) (length prefix + 1) ≡ Some e
entry_next prefix e es = grind (arith, at_place prefix e es)

-- The laws of the join on a log, by the window.
pub record LogLaws (w : Window) : Type 0 where
  pub agree : (id : List ℕ) (kind : ℕ → Option Kind) (es : List Entry) (e : Entry) → StepsAgree id w kind es e
  pub stay : (kind : ℕ → Option Kind) (es : List Entry) (e : Entry) → LinesStay w kind es e

pub log_laws : (w : Window) → IsWindow w.lines → ((id : List ℕ) (w : Window) (kind : ℕ → Option Kind) (es : List Entry) (e : Entry) → IsWindow w.lines → StepsAgree id w kind es e)
    → ((w : Window) (kind : ℕ → Option Kind) (es : List Entry) (e : Entry) → IsWindow w.lines → LinesStay w kind es e) → LogLaws w
log_laws w is agree stay = record { agree = λ id kind es e. agree id w kind es e is; stay = λ kind es e. stay w kind es e is }

module _ (t : TableParts) (o : Options) (laws : LogLaws o.window) (id : List ℕ) where
  pub messages_stay : (es fs : List Entry) (i : ℕ) → 1 ≤ i → i ≤ length es → message o.window (kind t) (es ++ fs) i ≡ message o.window (kind t) es i
  messages_stay es [] i low high = ap (λ xs. message o.window (kind t) xs i) (append-nil es)
  messages_stay es (f ∷ fs) i low high =
      ap (λ xs. message o.window (kind t) xs i) (sym (append_assoc es (f ∷ []) fs))
      ∙ messages_stay (es ++ f ∷ []) fs i low (omega (arith, high, length-append es (f ∷ [])))
      ∙ (laws.stay (kind t) es f).messages i low high

  pub broken_stay : (es fs : List Entry) (i : ℕ) → i ≤ length es → broken o.window (kind t) (es ++ fs) i ≡ broken o.window (kind t) es i
  broken_stay es [] i high = ap (λ xs. broken o.window (kind t) xs i) (append-nil es)
  broken_stay es (f ∷ fs) i high =
      ap (λ xs. broken o.window (kind t) xs i) (sym (append_assoc es (f ∷ []) fs))
      ∙ broken_stay (es ++ f ∷ []) fs i (omega (arith, high, length-append es (f ∷ [])))
      ∙ (laws.stay (kind t) es f).broken_groups i high

  pub state_after : (prefix es : List Entry) → after_all (join_fold t o.empty) (state id o.window (kind t) prefix) es ≡ state id o.window (kind t) (prefix ++ es)
  state_after prefix [] = ap (state id o.window (kind t)) (sym (append-nil prefix))
  state_after prefix (e ∷ es) =
      ap (λ s. after_all (join_fold t o.empty) s es) (laws.agree id (kind t) prefix e).after
      ∙ state_after (prefix ++ e ∷ []) es
      ∙ ap (state id o.window (kind t)) (append_assoc prefix (e ∷ []) es)

  -- the result of the next entry is the log's result of its line, whatever follows
  message_next : (prefix : List Entry) (e : Entry) (es : List Entry) → (step_given (kind t) (state id o.window (kind t) prefix) e).message ≡ message o.window (kind t) (prefix ++ e ∷ es) (length prefix + 1)
  message_next prefix e es =
      ap (λ (g : Given). g.message) (laws.agree id (kind t) prefix e).given
      ∙ sym (messages_stay (prefix ++ e ∷ []) es (length prefix + 1) (omega arith) (omega (arith, length-append prefix (e ∷ []))))
      ∙ ap (λ xs. message o.window (kind t) xs (length prefix + 1)) (append_assoc prefix (e ∷ []) es)

  broken_next : (prefix : List Entry) (e : Entry) (es : List Entry) → (step_given (kind t) (state id o.window (kind t) prefix) e).broken ≡ broken o.window (kind t) (prefix ++ e ∷ es) (length prefix + 1)
  broken_next prefix e es =
      ap (λ (g : Given). g.broken) (laws.agree id (kind t) prefix e).given
      ∙ sym (broken_stay (prefix ++ e ∷ []) es (length prefix + 1) (omega (arith, length-append prefix (e ∷ []))))
      ∙ ap (λ xs. broken o.window (kind t) xs (length prefix + 1)) (append_assoc prefix (e ∷ []) es)

  cause_next : (prefix : List Entry) (e : Entry) (es : List Entry) → (step_given (kind t) (state id o.window (kind t) prefix) e).cause ≡ cause_at t (prefix ++ e ∷ es) (length prefix + 1)
  cause_next prefix e es =
      ap (λ (g : Given). g.cause) (laws.agree id (kind t) prefix e).given
      ∙ ap (option_and_then (cause_in (kind t))) (sym (entry_next prefix e es))

  -- the values of all the next entries are the log's values of their lines
  given_after : (given : State → Entry → List ℕ) (at : List Entry → ℕ → List ℕ) → ((prefix : List Entry) (e : Entry) (es : List Entry) → given (state id o.window (kind t) prefix) e ≡ at (prefix ++ e ∷ es) (length prefix + 1)) → (prefix es : List Entry)
      → given_from given (join_fold t o.empty) (state id o.window (kind t) prefix) es ≡ flat_map (at (prefix ++ es)) (numbers_after prefix es)
  given_after given at here prefix [] = refl
  given_after given at here prefix (e ∷ es) =
      let next : length (prefix ++ e ∷ []) + 1 ≡ length prefix + 1 + 1 = omega (arith, length-append prefix (e ∷ [])) in
      let rest =
      ap (λ s. given_from given (join_fold t o.empty) s es) (laws.agree id (kind t) prefix e).after
      ∙ given_after given at here (prefix ++ e ∷ []) es
      ∙ ap (λ xs. flat_map (at xs) (range_with_len (length (prefix ++ e ∷ []) + 1) (length es))) (append_assoc prefix (e ∷ []) es)
      ∙ ap (λ n. flat_map (at (prefix ++ e ∷ es)) (range_with_len n (length es))) next in
      ap (λ x. x ++ given_from given (join_fold t o.empty) (step_after (kind t) (state id o.window (kind t) prefix) e) es) (here prefix e es)
      ∙ ap (λ r. at (prefix ++ e ∷ es) (length prefix + 1) ++ r) rest

  pub texts_after : (prefix es : List Entry) → texts_from (join_fold t o.empty) (state id o.window (kind t) prefix) es ≡ flat_map (text_of_line t o (prefix ++ es)) (numbers_after prefix es)
  texts_after = given_after (join_fold t o.empty).text (text_of_line t o) (λ prefix e es. ap (message_line t o.empty) (message_next prefix e es))

  report_next : (prefix : List Entry) (e : Entry) (es : List Entry) → (join_fold t o.empty).report (state id o.window (kind t) prefix) e ≡ report_at t o (prefix ++ e ∷ es) (length prefix + 1)
  report_next prefix e es = grind (arith, broken_next, cause_next)

  pub reports_after : (prefix es : List Entry) → reports_from (join_fold t o.empty) (state id o.window (kind t) prefix) es ≡ flat_map (report_at t o (prefix ++ es)) (numbers_after prefix es)
  reports_after = given_after (join_fold t o.empty).report (report_at t o) report_next

-- a run from a log's state has the output of the whole log
pub output_after-is : (t : TableParts) (o : Options) → LogLaws o.window → (id : List ℕ) (prefix : List Entry) → output_from (join_fold t o.empty) o.packing (state id o.window (kind t) prefix) ≡ output_after t o prefix
output_after-is t o laws id prefix = output_same o.packing (length prefix) _ _ _ _ (texts_after t o laws id prefix) (reports_after t o laws id prefix)

-- a message's PGN was looked up in this table, and is its own
pub of_table : (t : TableParts) (o : Option TableMessage) → IfSome o (λ m. m.pgn ≡ record { table = t; pgn = m.packet.now.id.pgn }) → IfSome o (λ m. m.pgn.table ≡ t)
of_table t o is = grind arith

pub of_pgn : (t : TableParts) (o : Option TableMessage) → IfSome o (λ m. m.pgn ≡ record { table = t; pgn = m.packet.now.id.pgn }) → IfSome o (λ m. m.pgn.pgn ≡ m.packet.now.id.pgn)
of_pgn t o is = grind arith
