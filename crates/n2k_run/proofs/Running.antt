-- The engine of the runs: what holds after each step and at each end.
use Rattle.std.proofs.Common.{◌≡◌, inl, inr, ℕ, true, false, List, [], ◌∷◌, ◌++◌, length, refl, sym, ap, ◌∙◌, subst, append_assoc, arith, length-append, Option, Result, Ok, Err, IfSome, if◌then◌else◌, append-nil}
use Rattle.std.specs.Io.KnownBytes.{Appends, Consumes}
use Rattle.std.proofs.KnownBytes.{Appends-nil, Appends-trans, Consumes-nil, Consumes-trans}
use Rattle.n2k_wire.specs.declared.entry.Entry.{Entry}
use Rattle.n2k_wire.specs.declared.entry.Packing.{Packing}
use Rattle.n2k_run.specs.declared.fault.RunFault.{RunFault}
use Rattle.n2k_run.specs.declared.fault.RunFault.TheVariants.{Read, Write, Report, Memory, TooManyLines}
use Rattle.n2k_run.specs.Blocks.{BlocksView, CallsAre, unanswered}
use Rattle.n2k_run.specs.Device.{HasFailed}
use Rattle.n2k_run.specs.Entries.{entries}
use Rattle.n2k_run.specs.Lines.{whole_lines}
use Rattle.n2k_run.specs.Fold.{Fold, after_all, given_from, texts_from, reports_from}
use Rattle.n2k_run.specs.Reading.{ReadsBytes}
use Rattle.n2k_run.specs.Runs.{AreNumbered, Devices, RunEnds, Gained, IsOfDevice, HasPrefixes, IsCut, IsAtLastNumber, NoneFailed, Output, ReportsFirst, Runs, output_from}
use Rattle.n2k_run.specs.Writing.{AppendsPrefix}
use Rattle.n2k_run.specs.Inner.Engine.{FailsPending, Made, MovesOn, ReadsNext, BetweenLines, Unmoved, TakesNext, WritesPending, read_on}
use Rattle.n2k_run.proofs.Calls.{ended_within_one, none_read as no_calls, reads_on}
use Rattle.n2k_run.proofs.Folds.{after-append, given-append}
use Rattle.n2k_run.proofs.Prefixes.{Leads, leads, takes_more, whole_prefix}

-- nothing of a text, or all of it
pub none_gained : (held : Option (List ℕ)) (text : List ℕ) → AppendsPrefix held held text
none_gained held text = (text, record { prefix = []; appended = Appends-nil held; still = refl })

pub all_gained : (old new : Option (List ℕ)) (text : List ℕ) → Appends old new text → AppendsPrefix old new text
all_gained old new text appended = ([], record { prefix = text; appended = appended; still = sym (append-nil text) })

-- a prefix of a longer text
longer_prefix : (old new : Option (List ℕ)) (text more whole : List ℕ) → AppendsPrefix old new text → whole ≡ text ++ more → AppendsPrefix old new whole
longer_prefix old new text more whole (rest, owes) is = grind (arith, append_assoc)

-- a text, and a prefix of the text after it
more_prefix : (old mid new : Option (List ℕ)) (text part whole : List ℕ) → Appends old mid text → AppendsPrefix mid new part → whole ≡ text ++ part → AppendsPrefix old new whole
more_prefix old mid new text part whole first (rest, owes) is = grind (arith, append_assoc)

pub known_more : (known : Option (List ℕ)) (P Q : List ℕ → Type 0) → ((log : List ℕ) → P log → Q log) → IfSome known P → IfSome known Q
known_more known P Q follows p = grind arith

-- A sink failed once the next line had its fault: then something was kept, so that the fault is none of the source.
pub none_read : {S : Type 0} (m : Fold S) (packing : Packing) (s s' : S) (held held' : BlocksView) (text text' report report' : List ℕ) (left₀ left : Option (List ℕ)) (failed₀ failed : ℕ) (w w' e e' : Option (List ℕ)) (fault sink : RunFault)
    → TakesNext {T = Unit {0}} m packing s s' held held' left₀ left text text' report report' (Err fault) → (fault ≡ Memory → ⊥) → ReadsNext {T = Unit {0}} held' failed₀ failed (Err fault)
    → WritesPending {T = Unit {0}} text' report' w w' e e' (Err sink) → failed ≡ failed₀
none_read m packing s s' held held' text text' report report' left₀ left failed₀ failed w w' e e' Read Write next not_memory reads out = absurd (omega (arith, ap length next.2, out.2))
none_read m packing s s' held held' text text' report report' left₀ left failed₀ failed w w' e e' Read Report next not_memory reads out = absurd (omega (arith, ap length next.3, out.2))
none_read m packing s s' held held' text text' report report' left₀ left failed₀ failed w w' e e' Read _ next not_memory reads out = absurd out
none_read m packing s s' held held' text text' report report' left₀ left failed₀ failed w w' e e' TooManyLines sink next not_memory reads out = reads
none_read m packing s s' held held' text text' report report' left₀ left failed₀ failed w w' e e' Memory sink next not_memory reads out = reads
none_read m packing s s' held held' text text' report report' left₀ left failed₀ failed w w' e e' _ sink next not_memory reads out = absurd next

module _ {S : Type 0} (m : Fold S) (packing : Packing) (s₀ : S) (before : Devices) where
  abbrev o : Output
  o = output_from m packing s₀

  -- the values of the first entries are a prefix of the log's
  led : (given : S → Entry → List ℕ) (es more : List Entry) (log : List ℕ) → entries packing log ≡ es ++ more → given_from given m s₀ (entries packing log) ≡ given_from given m s₀ es ++ given_from given m (after_all m s₀ es) more
  led given es more log is = ap (given_from given m s₀) is ∙ given-append m given s₀ es more

  -- the written texts and the pending texts
  parts : (given : S → Entry → List ℕ) (es written kept : List Entry) (last : List ℕ) → es ≡ written ++ kept → last ≡ given_from given m (after_all m s₀ written) kept → given_from given m s₀ es ≡ given_from given m s₀ written ++ last
  parts given es written kept last are is = ap (given_from given m s₀) are ∙ given-append m given s₀ written kept ∙ ap (λ t. given_from given m s₀ written ++ t) (sym is)

  -- which is written then
  all_out : (given : S → Entry → List ℕ) (es written kept : List Entry) (last : List ℕ) (w₀ w w' : Option (List ℕ)) → es ≡ written ++ kept → last ≡ given_from given m (after_all m s₀ written) kept
      → Appends w₀ w (given_from given m s₀ written) → Appends w w' last → Appends w₀ w' (given_from given m s₀ es)
  all_out given es written kept last w₀ w w' are is first next = subst (λ t. Appends w₀ w' t) (sym (parts given es written kept last are is)) (Appends-trans w₀ w w' _ last first next)

  -- the output of entries, written and pending
  abbrev MadeOf : S → List Entry → List ℕ → List ℕ → Devices → Type 0
  MadeOf s es text report now = Made m s₀ s es text report before.written now.written before.reported now.reported

  -- nothing is made yet
  pub begins : (held : BlocksView) (text report : List ℕ) → held ≡ record { kept = []; is_passing = false; has_ended = false; reads = 0; room = 4096 } → text ≡ [] → report ≡ [] → BetweenLines m packing s₀ s₀ held text report before before
  begins held text report is none_text none_report =
      let none : unanswered held ≡ [] = rw is refl in
      record {
        prefix = [];
        came = subst (λ b. Consumes before.left before.left b) (sym none) (Consumes-nil before.left);
        whole = λ _ some. absurd (omega (arith, some));
        end = λ ended. let open_yet = ap (λ (h : BlocksView). h.has_ended) is in cc;
        made = record {
          written = [];
          kept = [];
          entries_are = refl;
          state = refl;
          printed = Appends-nil before.written;
          reported = Appends-nil before.reported;
          text_is = none_text;
          report_is = none_report;
          counted = omega arith;
          numbered = λ some. absurd (omega (arith, some));
        };
        called = (omega arith, inl (omega (arith, ap (λ (h : BlocksView). h.reads) is)));
        reads = rw is (no_calls before.left before.calls);
        none_failed = record { reads = refl; writes = refl; reports = refl };
      }

  -- all pending texts were written
  made_written : (s : S) (es : List Entry) (text report : List ℕ) (now after : Devices) → MadeOf s es text report now → Appends now.written after.written text → Appends now.reported after.reported report → MadeOf s es [] [] after
  made_written s es text report now after made texts reports = grind (arith, append-nil es, all_out)

  pub writes : (s : S) (held : BlocksView) (text report : List ℕ) (now : Devices) (w' e' : Option (List ℕ)) (fw' fe' : ℕ) (text' report' : List ℕ) → BetweenLines m packing s₀ s held text report before now
      → Appends now.written w' text × Appends now.reported e' report → (fw' ≡ now.failed_writes) × (fe' ≡ now.failed_reports) → (text' ≡ []) × (report' ≡ [])
      → BetweenLines m packing s₀ s held text' report' before (record now { written = w'; failed_writes = fw'; reported = e'; failed_reports = fe' })
  writes s held text report now w' e' fw' fe' text' report' stands out none_failed none_pending =
      let after : Devices = record now { written = w'; failed_writes = fw'; reported = e'; failed_reports = fe' } in
      let made : MadeOf s (entries packing stands.prefix) [] [] after = made_written s _ text report now after stands.made out.0 out.1 in
      record {
        prefix = stands.prefix;
        came = stands.came;
        whole = stands.whole;
        end = stands.end;
        made = rw (none_pending.0, none_pending.1) made;
        called = stands.called;
        reads = stands.reads;
        none_failed = record { reads = stands.none_failed.reads; writes = none_failed.0 ∙ stands.none_failed.writes; reports = none_failed.1 ∙ stands.none_failed.reports };
      }

  -- one entry more was made
  made_more : (s s' : S) (es : List Entry) (x : Entry) (text text' report report' : List ℕ) (now : Devices) → MadeOf s es text report now → MovesOn m s s' x text text' report report' → MadeOf s' (es ++ (x ∷ [])) text' report' now
  made_more s s' es x text text' report report' now made moves = grind (arith, after-append, append_assoc, append-nil, given-append, length-append)

  made_still : (s s' : S) (es : List Entry) (text text' report report' : List ℕ) (now : Devices) → MadeOf s es text report now → Unmoved s s' text text' report report' → MadeOf s' es text' report' now
  made_still s s' es text text' report report' now made still = rw (still.same_state, still.same_text, still.same_report) made

  calls_trans : (c₀ c c' r₀ r r' : ℕ) → CallsAre c₀ c r₀ r → CallsAre c c' r r' → CallsAre c₀ c' r₀ r'
  calls_trans c₀ c c' r₀ r r' h is = grind arith

  pub takes : (s s' : S) (held held' : BlocksView) (text text' report report' : List ℕ) (now : Devices) (left : Option (List ℕ)) (calls failed : ℕ) → BetweenLines m packing s₀ s held text report before now → held.has_ended ≡ false
      → TakesNext {T = Unit {0}} m packing s s' held held' now.left left text text' report report' (Ok tt) → failed ≡ now.failed_reads → CallsAre now.calls calls held.reads held'.reads → ReadsBytes (if held'.has_ended then 1 else 0) now.left left now.calls calls
      → BetweenLines m packing s₀ s' held' text' report' before (read_on now left calls failed)
  takes s s' held held' text text' report report' now left calls failed stands on next none_failed called calls_more =
      let calls_are = calls_trans before.calls now.calls calls 0 held.reads held'.reads stands.called called in
      let reads = reads_on held.has_ended _ before.left now.left left before.calls now.calls calls on stands.reads calls_more in
      let none : NoneFailed before (read_on now left calls failed) = record { reads = none_failed ∙ stands.none_failed.reads; writes = stands.none_failed.writes; reports = stands.none_failed.reports } in
      elim next [
        | inl one ↦
            let more = takes_more packing held held' before.left now.left left stands.prefix one.0 stands.came (stands.whole on) one.1 in
            let moved = made_more s s' (entries packing stands.prefix) one.0 text text' report report' now stands.made one.2 in
            record {
              prefix = more.longer;
              came = more.came;
              whole = more.whole;
              end = more.end;
              made = subst (λ es. MadeOf s' es text' report' (read_on now left calls failed)) (sym more.entries_are) moved;
              called = calls_are;
              reads = reads;
              none_failed = none;
            }
        | inr last ↦
            let bytes = last.0.came in
            let all : (stands.prefix ++ unanswered held) ++ bytes ≡ stands.prefix ++ unanswered held' = append_assoc stands.prefix (unanswered held) bytes ∙ ap (λ b. stands.prefix ++ b) (last.0.none ∙ sym last.0.none_held) in
            record {
              prefix = stands.prefix;
              came = subst (λ b. Consumes before.left left b) all (Consumes-trans before.left now.left left (stands.prefix ++ unanswered held) bytes stands.came last.0.given);
              whole = λ _. stands.whole on;
              end = λ _. (last.0.none_held, last.0.at_end);
              made = made_still s s' (entries packing stands.prefix) text text' report report' now stands.made last.1;
              called = calls_are;
              reads = reads;
              none_failed = none;
            }
      ]

  -- ---- the end of a run

  -- The sinks gained of these entries: all reports of the first of them, and a prefix of their texts.
  record HasOut (es : List Entry) (after : Devices) : Type 0 where
    taken : List Entry
    rest : List Entry
    entries_are : es ≡ taken ++ rest
    printed : AppendsPrefix before.written after.written (texts_from m s₀ taken)
    reports_first : (more : List ℕ) × Appends before.reported after.reported (reports_from m s₀ taken ++ more)
    reported : AppendsPrefix before.reported after.reported (reports_from m s₀ es)

  -- the entries are a prefix of the log's
  all_entries : (es : List Entry) (after : Devices) (out : HasOut es after) (log : List ℕ) (l : (more : List Entry) × (entries packing log ≡ es ++ more)) → entries packing log ≡ out.taken ++ (out.rest ++ l.0)
  all_entries es after out log l = l.1 ∙ ap (λ es. es ++ l.0) out.entries_are ∙ append_assoc out.taken out.rest l.0

  prefixes_of : (es : List Entry) (after : Devices) → HasOut es after → Leads packing before.left es → IfSome before.left (λ log. HasPrefixes o before after log)
  prefixes_of es after out lead = known_more before.left _ _ (λ log l. record {
    printed = longer_prefix _ _ _ _ _ out.printed (led m.text out.taken (out.rest ++ l.0) log (all_entries es after out log l));
    reported = longer_prefix _ _ _ _ _ out.reported (led m.report es l.0 log l.1);
  }) lead

  first_of : (es : List Entry) (after : Devices) → HasOut es after → Leads packing before.left es → IfSome before.left (λ log. ReportsFirst o before after log)
  first_of es after out lead = known_more before.left _ _ (λ log l. record {
    taken = out.taken;
    left = out.rest ++ l.0;
    lines_taken = all_entries es after out log l;
    printed = out.printed;
    reported = out.reports_first;
  }) lead

  -- all of the entries are written
  gained : (s : S) (es : List Entry) (now : Devices) → MadeOf s es [] [] now → Gained o before now es
  gained s es now made = record {
    printed = all_out m.text es made.written made.kept [] _ _ _ made.entries_are made.text_is made.printed (Appends-nil now.written);
    reported = all_out m.report es made.written made.kept [] _ _ _ made.entries_are made.report_is made.reported (Appends-nil now.reported);
  }

  -- all reports were written, and a prefix of the texts
  written_out : (es : List Entry) (after : Devices) → AppendsPrefix before.written after.written (texts_from m s₀ es) → Appends before.reported after.reported (reports_from m s₀ es) → HasOut es after
  written_out es after texts reports = record {
    taken = es;
    rest = [];
    entries_are = sym (append-nil es);
    printed = texts;
    reports_first = ([], subst (λ t. Appends before.reported after.reported t) (sym (append-nil (reports_from m s₀ es))) reports);
    reported = all_gained before.reported after.reported _ reports;
  }

  -- no more texts were written, and a prefix of the reports
  report_out : (s : S) (es : List Entry) (text report : List ℕ) (now after : Devices) → MadeOf s es text report now → (after.written ≡ now.written) × AppendsPrefix now.reported after.reported report → HasOut es after
  report_out s es text report now after made out = record {
    taken = made.written;
    rest = made.kept;
    entries_are = made.entries_are;
    printed = all_gained before.written after.written _ (subst (λ w. Appends before.written w (texts_from m s₀ made.written)) (sym out.0) made.printed);
    reports_first = (out.1.1.prefix, Appends-trans before.reported now.reported after.reported _ out.1.1.prefix made.reported out.1.1.appended);
    reported = more_prefix before.reported now.reported after.reported _ report _ made.reported out.1 (parts m.report es made.written made.kept report made.entries_are made.report_is);
  }

  -- how a run ends by a fault, with so much output
  ended : (stands : List Entry → Type 0) (es : List Entry) (after : Devices) (fault : RunFault) → RunEnds {T = Unit {0}} o stands before after (Err fault) → HasOut es after → Leads packing before.left es → IsOfDevice {T = Unit {0}} before after (Err fault)
      → ReadsBytes 1 before.left after.left before.calls after.calls → Runs {T = Unit {0}} o stands before after (Err fault)
  ended stands es after fault ends out lead device reads = record { ends = ends; prefixes = prefixes_of es after out lead; reports_first = first_of es after out lead; device = device; reads = reads }

  pub sink_end : (stands : List Entry → Type 0) (s : S) (es : List Entry) (text report : List ℕ) (now after : Devices) (fault : RunFault) → MadeOf s es text report now → Leads packing before.left es → after.failed_reads ≡ before.failed_reads → now.failed_writes ≡ before.failed_writes → now.failed_reports ≡ before.failed_reports
      → WritesPending {T = Unit {0}} text report now.written after.written now.reported after.reported (Err fault) → FailsPending {T = Unit {0}} now.failed_writes after.failed_writes now.failed_reports after.failed_reports (Err fault)
      → ReadsBytes 1 before.left after.left before.calls after.calls
      → Runs {T = Unit {0}} o stands before after (Err fault)
  sink_end stands s es text report now after Write made lead reads writes reports out fails calls =
      let texts = more_prefix before.written now.written after.written _ text _ made.printed out.0 (parts m.text es made.written made.kept text made.entries_are made.text_is) in
      ended stands es after Write tt (written_out es after texts (all_out m.report es made.written made.kept report _ _ _ made.entries_are made.report_is made.reported out.1)) lead
      (record { reads = reads; writes = subst (λ n. HasFailed n after.failed_writes) writes fails.0; reports = fails.1 ∙ reports }) calls
  sink_end stands s es text report now after Report made lead reads writes reports out fails calls =
      ended stands es after Report tt (report_out s es text report now after made (out.0, out.1)) lead
      (record { reads = reads; writes = fails.1 ∙ writes; reports = subst (λ n. HasFailed n after.failed_reports) reports fails.0 }) calls
  sink_end stands s es text report now after _ made lead reads writes reports out fails calls = absurd out

  pub lead_of : (s : S) (held : BlocksView) (text report : List ℕ) (now : Devices) (stands : BetweenLines m packing s₀ s held text report before now) → Leads packing before.left (entries packing stands.prefix)
  lead_of s held text report now stands = leads packing before.left now.left stands.prefix (unanswered held) held.has_ended stands.came stands.whole stands.end

  -- the calls up to here, including the calls for the next line
  pub calls_here : (s : S) (held : BlocksView) (text report : List ℕ) (now : Devices) → BetweenLines m packing s₀ s held text report before now → ReadsBytes 1 before.left now.left before.calls now.calls
  calls_here s held text report now stands = ended_within_one held.has_ended before.left now.left before.calls now.calls stands.reads

  pub calls_next : (s : S) (held : BlocksView) (text report : List ℕ) (now : Devices) (left : Option (List ℕ)) (calls : ℕ) → BetweenLines m packing s₀ s held text report before now → held.has_ended ≡ false → ReadsBytes 1 now.left left now.calls calls → ReadsBytes 1 before.left left before.calls calls
  calls_next s held text report now left calls stands on next = reads_on held.has_ended 1 before.left now.left left before.calls now.calls calls on stands.reads next

  -- memory was refused: nothing more is written
  pub memory_end : (stands : List Entry → Type 0) (s : S) (held : BlocksView) (text report : List ℕ) (now : Devices) (left : Option (List ℕ)) (calls failed : ℕ) → BetweenLines m packing s₀ s held text report before now → held.has_ended ≡ false → ReadsBytes 1 now.left left now.calls calls → failed ≡ now.failed_reads → Runs {T = Unit {0}} o stands before (read_on now left calls failed) (Err Memory)
  memory_end stands s held text report now left calls failed stood on next none_failed =
      let es = entries packing stood.prefix in
      let after = read_on now left calls failed in
      ended stands es after Memory tt (report_out s es text report now after stood.made (refl, none_gained now.reported report)) (lead_of s held text report now stood)
      (record { reads = none_failed ∙ stood.none_failed.reads; writes = stood.none_failed.writes; reports = stood.none_failed.reports }) (calls_next s held text report now left calls stood on next)

  -- the end of the log
  pub whole_end : (s : S) (held : BlocksView) (text report : List ℕ) (now : Devices) (w' e' : Option (List ℕ)) (fw' fe' : ℕ) → BetweenLines m packing s₀ s held text report before now → held.has_ended ≡ true
      → Appends now.written w' text × Appends now.reported e' report → (fw' ≡ now.failed_writes) × (fe' ≡ now.failed_reports)
      → Runs {T = Unit {0}} o (λ es. s ≡ after_all m s₀ es) before (record now { written = w'; failed_writes = fw'; reported = e'; failed_reports = fe' }) (Ok tt)
  whole_end s held text report now w' e' fw' fe' stands ended out none_failed =
      let after : Devices = record now { written = w'; failed_writes = fw'; reported = e'; failed_reports = fe' } in
      let es = entries packing stands.prefix in
      let made : MadeOf s es [] [] after = made_written s es text report now after stands.made out.0 out.1 in
      let all = gained s es after made in
      let lead = lead_of s held text report now stands in
      let end = stands.end ended in
      record {
        ends = record {
          came = stands.prefix;
          given = subst (Consumes before.left now.left) (ap (λ h. stands.prefix ++ h) end.0 ∙ append-nil stands.prefix) stands.came;
          at_end = end.1;
          numbered = stands.made.numbered;
          gained = all;
          holds = stands.made.state;
        };
        prefixes = tt;
        reports_first = first_of es after (written_out es after (all_gained _ _ _ all.printed) all.reported) lead;
        device = record { reads = stands.none_failed.reads; writes = none_failed.0 ∙ stands.none_failed.writes; reports = none_failed.1 ∙ stands.none_failed.reports };
        reads = calls_here s held text report now stands;
      }

  pub last_end : (s : S) (held : BlocksView) (text report : List ℕ) (now : Devices) (w' e' : Option (List ℕ)) (fw' fe' : ℕ) (result : Result (Unit {0}) RunFault) → BetweenLines m packing s₀ s held text report before now → held.has_ended ≡ true
      → WritesPending text report now.written w' now.reported e' result → FailsPending now.failed_writes fw' now.failed_reports fe' result
      → Runs o (λ es. s ≡ after_all m s₀ es) before (record now { written = w'; failed_writes = fw'; reported = e'; failed_reports = fe' }) result
  last_end s held text report now w' e' fw' fe' (Ok x) stands ended out fails = whole_end s held text report now w' e' fw' fe' stands ended out fails
  last_end s held text report now w' e' fw' fe' (Err fault) stands ended out fails =
      let after : Devices = record now { written = w'; failed_writes = fw'; reported = e'; failed_reports = fe' } in
      sink_end (λ es. s ≡ after_all m s₀ es) s (entries packing stands.prefix) text report now after fault stands.made (lead_of s held text report now stands) stands.none_failed.reads stands.none_failed.writes stands.none_failed.reports out fails (calls_here s held text report now stands)

  -- a fault of the next line that changed nothing
  pub still_made : (s s' : S) (held held' : BlocksView) (text text' report report' : List ℕ) (now : Devices) (left : Option (List ℕ)) (calls failed : ℕ) (fault : RunFault) → BetweenLines m packing s₀ s held text report before now → TakesNext {T = Unit {0}} m packing s s' held held' now.left left text text' report report' (Err fault) → (fault ≡ Memory → ⊥)
      → (es : List Entry) → MadeOf s es text report now → MadeOf s' es text' report' (read_on now left calls failed)
  still_made s s' held held' text text' report report' now left calls failed Read stands next not_memory es made = made_still s s' es text text' report report' now made next.1
  still_made s s' held held' text text' report report' now left calls failed TooManyLines stands next not_memory es made = made_still s s' es text text' report report' now made next.2
  still_made s s' held held' text text' report report' now left calls failed Memory stands next not_memory es made = absurd (not_memory refl)
  still_made s s' held held' text text' report report' now left calls failed _ stands next not_memory es made = absurd next

  -- the source failed, or gave no end: the lines whose end came are written
  cut_end : (s s' : S) (held held' : BlocksView) (text text' report report' : List ℕ) (now after : Devices) (stands : BetweenLines m packing s₀ s held text report before now) → held.has_ended ≡ false
      → (next : TakesNext {T = Unit {0}} m packing s s' held held' now.left after.left text text' report report' (Err Read))
      → MadeOf s' (entries packing stands.prefix) [] [] after
      → IsCut o (λ es. s' ≡ after_all m s₀ es) before after
  cut_end s s' held held' text text' report report' now after stands on next made =
      let bytes : List ℕ = unanswered held ++ next.0.came in
      let came : List ℕ = (stands.prefix ++ unanswered held) ++ next.0.came in
      let is : stands.prefix ≡ whole_lines came = sym (ap whole_lines (append_assoc stands.prefix (unanswered held) next.0.came) ∙ whole_prefix stands.prefix bytes (stands.whole on) next.0.none) in
      record {
        came = came;
        given = Consumes-trans before.left now.left after.left (stands.prefix ++ unanswered held) next.0.came stands.came next.0.given;
        numbered = subst (λ prefix. AreNumbered (m.lines s₀) (entries packing prefix)) is made.numbered;
        gained = subst (λ prefix. Gained o before after (entries packing prefix)) is (gained s' (entries packing stands.prefix) after made);
        holds = subst (λ prefix. s' ≡ after_all m s₀ (entries packing prefix)) is made.state;
      }

  -- no more lines are counted, and one more came
  full_end : (s s' : S) (held held' : BlocksView) (text text' report report' : List ℕ) (now after : Devices) (stands : BetweenLines m packing s₀ s held text report before now) → held.has_ended ≡ false
      → (next : TakesNext {T = Unit {0}} m packing s s' held held' now.left after.left text text' report report' (Err TooManyLines))
      → MadeOf s' (entries packing stands.prefix) [] [] after
      → IsAtLastNumber o (λ es. s' ≡ after_all m s₀ es) before after
  full_end s s' held held' text text' report report' now after stands on next made =
      let more = takes_more packing held held' before.left now.left after.left stands.prefix next.0 stands.came (stands.whole on) next.1 in
      let lead = leads packing before.left after.left more.longer (unanswered held') held'.has_ended more.came more.whole more.end in
      record {
        taken = entries packing stands.prefix;
        full = sym stands.made.counted ∙ next.3;
        left = known_more before.left _ _ (λ log l. (next.0, l.0, l.1 ∙ ap (λ es. es ++ l.0) more.entries_are ∙ append_assoc (entries packing stands.prefix) (next.0 ∷ []) l.0)) lead;
        gained = gained s' (entries packing stands.prefix) after made;
        holds = made.state;
      }

  fault_ends : (s s' : S) (held held' : BlocksView) (text text' report report' : List ℕ) (now after : Devices) (fault : RunFault) (stands : BetweenLines m packing s₀ s held text report before now) → held.has_ended ≡ false
      → (next : TakesNext {T = Unit {0}} m packing s s' held held' now.left after.left text text' report report' (Err fault)) → (fault ≡ Memory → ⊥)
      → MadeOf s' (entries packing stands.prefix) [] [] after
      → RunEnds {T = Unit {0}} o (λ es. s' ≡ after_all m s₀ es) before after (Err fault)
  fault_ends s s' held held' text text' report report' now after Read stands on next not_memory made = cut_end s s' held held' text text' report report' now after stands on next made
  fault_ends s s' held held' text text' report report' now after TooManyLines stands on next not_memory made = full_end s s' held held' text text' report report' now after stands on next made
  fault_ends s s' held held' text text' report report' now after _ stands on next not_memory made = tt

  -- a read's fault is the source's, or that of the most reads
  fault_device : (now after : Devices) (s s' : S) (held held' : BlocksView) (text text' report report' : List ℕ) (fault : RunFault) → NoneFailed before now → (after.failed_writes ≡ now.failed_writes) × (after.failed_reports ≡ now.failed_reports) → CallsAre before.calls after.calls 0 held'.reads
      → TakesNext {T = Unit {0}} m packing s s' held held' now.left after.left text text' report report' (Err fault) → ReadsNext {T = Unit {0}} held' now.failed_reads after.failed_reads (Err fault)
      → IsOfDevice {T = Unit {0}} before after (Err fault)
  fault_device now after s s' held held' text text' report report' Read none hold called next reads = grind arith
  fault_device now after s s' held held' text text' report report' Write none hold called next reads = absurd next
  fault_device now after s s' held held' text text' report report' Report none hold called next reads = absurd next
  fault_device now after s s' held held' text text' report report' _ none hold called next reads = record { reads = reads ∙ none.reads; writes = hold.0 ∙ none.writes; reports = hold.1 ∙ none.reports }

  pub fault_end : (s s' : S) (held held' : BlocksView) (text text' report report' : List ℕ) (now : Devices) (left : Option (List ℕ)) (calls failed : ℕ) (w' e' : Option (List ℕ)) (fw' fe' : ℕ) (fault : RunFault) → BetweenLines m packing s₀ s held text report before now → held.has_ended ≡ false
      → TakesNext {T = Unit {0}} m packing s s' held held' now.left left text text' report report' (Err fault) → (fault ≡ Memory → ⊥) → ReadsNext {T = Unit {0}} held' now.failed_reads failed (Err fault) → CallsAre now.calls calls held.reads held'.reads → ReadsBytes 1 now.left left now.calls calls
      → Appends now.written w' text' × Appends now.reported e' report' → (fw' ≡ now.failed_writes) × (fe' ≡ now.failed_reports)
      → Runs {T = Unit {0}} o (λ es. s' ≡ after_all m s₀ es) before (record now { left = left; calls = calls; failed_reads = failed; written = w'; failed_writes = fw'; reported = e'; failed_reports = fe' }) (Err fault)
  fault_end s s' held held' text text' report report' now left calls failed w' e' fw' fe' fault stands on next not_memory reads called calls_more out hold =
      let mid : Devices = read_on now left calls failed in
      let after : Devices = record now { left = left; calls = calls; failed_reads = failed; written = w'; failed_writes = fw'; reported = e'; failed_reports = fe' } in
      let es = entries packing stands.prefix in
      let made : MadeOf s' es text' report' mid = still_made s s' held held' text text' report report' now left calls failed fault stands next not_memory es stands.made in
      let done : MadeOf s' es [] [] after = made_written s' es text' report' mid after made out.0 out.1 in
      let all = gained s' es after done in
      ended (λ es. s' ≡ after_all m s₀ es) es after fault (fault_ends s s' held held' text text' report report' now after fault stands on next not_memory done)
      (written_out es after (all_gained _ _ _ all.printed) all.reported) (lead_of s held text report now stands)
      (fault_device now after s s' held held' text text' report report' fault stands.none_failed hold (calls_trans before.calls now.calls calls 0 held.reads held'.reads stands.called called) next reads)
      (calls_next s held text report now left calls stands on calls_more)
