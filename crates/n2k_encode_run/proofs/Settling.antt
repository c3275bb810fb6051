-- The state of a run after each read, and at each of its ends.
use Rattle.std.proofs.Common.{◌≡◌, inl, inr, ℕ, ◌+◌, ◌-◌, ◌<◌, ◌≤◌, Bool, List, [], ◌∷◌, ◌++◌, length, refl, sym, ap, ◌∙◌, subst, append_assoc, append-nil, arith, length-append, get_or, Option, Some, None, IfSome, OnOk, Result, Ok, Err}
use Rattle.std.specs.Io.{IsEmptyOrEndsWith}
use Rattle.std.specs.Io.KnownBytes.{Appends, Consumes, IsAtEnd, Keeps}
use Rattle.std.proofs.KnownBytes.{Appends-nil, Appends-trans, Consumes-nil, Consumes-trans}
use Rattle.std.proofs.lemmas.Grind.{flat_map-append}
use Rattle.std.proofs.lemmas.Bool.{cases_lt}
use Rattle.std.proofs.lemmas.List.{get_or-append_right, nil_from_length, take_all}
use Rattle.n2k_table.specs.Table.{TableParts}
use Rattle.n2k_join.specs.declared.counts.Counts.{Counts}
use Rattle.n2k_join.specs.Counts.{most_lines}
use Rattle.n2k_run.specs.declared.fault.RunFault.{RunFault}
use Rattle.n2k_run.specs.declared.fault.RunFault.TheVariants.{Read, Write, Report, Memory, TooManyLines}
use Rattle.n2k_run.specs.Device.{HasFailed, one_more}
use Rattle.n2k_run.specs.Inner.Engine.{FailsPending, WritesPending}
use Rattle.n2k_run.specs.Lines.{line_feed, lines}
use Rattle.n2k_run.specs.Reading.{ReadsBytes, most_reads}
use Rattle.n2k_run.specs.Runs.{Devices}
use Rattle.n2k_run.specs.Writing.{AppendsPrefix}
use Rattle.n2k_run.proofs.Calls.{one_more_at_most}
use Rattle.n2k_run.proofs.Finding.{calls_end, calls_more}
use Rattle.n2k_run.proofs.Prefixes.{whole_prefix}
use Rattle.n2k_run.proofs.Running.{all_gained}
use Rattle.n2k_run.proofs.Splits.{lines-append}
use Rattle.n2k_encode_run.specs.declared.ledger.Ledger.{Ledger}
use Rattle.n2k_encode_run.specs.Encodes.{Encodes, IsCut, Takes}
use Rattle.n2k_encode_run.specs.Outcomes.{Outcome, GiveAll, counts_after, counts_of, reports_from, text_of, texts}
use Rattle.n2k_encode_run.specs.Inner.Taking.{AreCounts, BetweenReads, IsFresh, TakesBytes, TakesLines, TakesRead, most_kept}
use Rattle.n2k_encode_run.specs.Inner.Writing.{Settles}
use Rattle.n2k_encode_run.proofs.Feeding.{count_lines, counts_append, give_all_append, reports_append, takes_none}

ends_append : (prefix more : List ℕ) → IsEmptyOrEndsWith prefix line_feed → IsEmptyOrEndsWith more line_feed → IsEmptyOrEndsWith (prefix ++ more) line_feed
ends_append prefix [] ends last = subst (λ b. IsEmptyOrEndsWith b line_feed) (sym (append-nil prefix)) ends
ends_append prefix (b ∷ more) ends last = λ some. get_or-append_right prefix (b ∷ more) (length prefix) (length (prefix ++ (b ∷ more)) - 1) 0 refl (omega (arith, length-append prefix (b ∷ more))) ∙ ap (λ n. get_or (b ∷ more) n 0) (omega (arith, length-append prefix (b ∷ more))) ∙ last (omega arith)

-- the lines of bytes that lead the log
abbrev Leads : Option (List ℕ) → List (List ℕ) → Type 0
Leads left₀ ls = IfSome left₀ (λ log. (more : List (List ℕ)) × (lines log ≡ ls ++ more))

leads : (left₀ left : Option (List ℕ)) (prefix more : List ℕ) → Consumes left₀ left (prefix ++ more) → IsEmptyOrEndsWith prefix line_feed → Leads left₀ (lines prefix)
leads None left prefix more given ends = tt
leads (Some log) None prefix more given ends = absurd given
leads (Some log) (Some left) prefix more given ends = (lines (more ++ left), ap lines (given ∙ append_assoc prefix more left) ∙ lines-append prefix (more ++ left) ends)

leads_all : (left₀ left : Option (List ℕ)) (came : List ℕ) → Consumes left₀ left came → IsAtEnd left → Leads left₀ (lines came)
leads_all None left came given end = tt
leads_all (Some log) None came given end = absurd given
leads_all (Some log) (Some left) came given end = ([], ap lines (given ∙ ap (λ l. came ++ l) end ∙ append-nil came) ∙ sym (append-nil (lines came)))

keeps_none : (left₀ left : Option (List ℕ)) → Keeps left₀ left → Consumes left₀ left []
keeps_none None left keeps = tt
keeps_none (Some log) None keeps = absurd keeps
keeps_none (Some log) (Some left) keeps = sym keeps

more_prefix : (old mid new : Option (List ℕ)) (text part whole : List ℕ) → Appends old mid text → AppendsPrefix mid new part → whole ≡ text ++ part → AppendsPrefix old new whole
more_prefix old mid new text part whole first (rest, owes) is = grind (arith, append_assoc)

prefix_more : (old mid new : Option (List ℕ)) (text part : List ℕ) → Appends old mid text → AppendsPrefix mid new part → (more : List ℕ) × Appends old new (text ++ more)
prefix_more old mid new text part first (rest, owes) = (owes.prefix, Appends-trans old mid new text owes.prefix first owes.appended)

reads_one : (left₀ left left' : Option (List ℕ)) (calls₀ calls calls' : ℕ) (bytes : List ℕ) → ReadsBytes 0 left₀ left calls₀ calls → Consumes left left' bytes → calls' ≡ one_more calls → ReadsBytes 1 left₀ left' calls₀ calls'
reads_one left₀ left left' calls₀ calls calls' bytes so_far given is = record {
  came = so_far.came ++ bytes;
  given = Consumes-trans left₀ left left' so_far.came bytes so_far.given given;
  few = omega (arith, so_far.few, is, one_more_at_most calls, length-append so_far.came bytes);
}

reads_some : (left₀ left left' : Option (List ℕ)) (calls₀ calls calls' : ℕ) (bytes : List ℕ) → ReadsBytes 0 left₀ left calls₀ calls → Consumes left left' bytes → calls' ≡ one_more calls → 0 < length bytes → ReadsBytes 0 left₀ left' calls₀ calls'
reads_some left₀ left left' calls₀ calls calls' bytes so_far given is some = record {
  came = so_far.came ++ bytes;
  given = Consumes-trans left₀ left left' so_far.came bytes so_far.given given;
  few = omega (arith, so_far.few, is, one_more_at_most calls, length-append so_far.came bytes, some);
}

-- a read was made, which gave these bytes
pub record HasRead (now after : Devices) (bytes : List ℕ) : Type 0 where
  pub given : Consumes now.left after.left bytes
  pub calls : after.calls ≡ one_more now.calls
  pub none_failed : after.failed_reads ≡ now.failed_reads

module _ (t : TableParts) (nearest : Bool) (before : Devices) where
  abbrev Stands : Devices → List ℕ → Ledger → ℕ → Type 0
  Stands now kept l reads = BetweenReads t nearest before now kept l reads

  pub begins : (kept : List ℕ) (l : Ledger) → IsFresh l → kept ≡ [] → Stands before kept l 0
  begins kept l fresh none = record {
    prefix = [];
    rest = [];
    came = Consumes-nil before.left;
    ends = λ some. absurd (omega (arith, some));
    no_feed = λ k d below. absurd (omega (arith, below));
    kept_is = none ∙ sym (take_all most_kept [] (omega arith));
    taken = record { outcomes = []; given = tt; numbered = omega arith; printed = Appends-nil before.written; reported = Appends-nil before.reported; counted = fresh.counts };
    no_text = fresh.text;
    no_report = fresh.report;
    called = (omega arith, inl (omega arith));
    bytes = record { came = []; given = Consumes-nil before.left; few = omega arith };
    none_failed = record { reads = refl; writes = refl; reports = refl };
  }

  -- it gave bytes, and of the lines that were taken so far and of these nothing or all is written
  module _ (now after : Devices) (kept : List ℕ) (l l' : Ledger) (reads : ℕ) (stands : Stands now kept l reads) (bytes : List ℕ) (read : HasRead now after bytes) where
    came_all : Consumes before.left after.left (stands.prefix ++ (stands.rest ++ bytes))
    came_all = subst (Consumes before.left after.left) (append_assoc stands.prefix stands.rest bytes) (Consumes-trans before.left now.left after.left (stands.prefix ++ stands.rest) bytes stands.came read.given)

    calls_one : ReadsBytes 1 before.left after.left before.calls after.calls
    calls_one = reads_one before.left now.left after.left before.calls now.calls after.calls bytes stands.bytes read.given read.calls

    -- memory was refused: nothing more is written
    pub memory_end : (counts : Counts) → after.written ≡ now.written → after.reported ≡ now.reported → (after.failed_writes ≡ now.failed_writes) × (after.failed_reports ≡ now.failed_reports) → Encodes {T = Unit {0}} t nearest before after counts (Err Memory)
    memory_end counts same_written same_reported none =
        let made = stands.taken in
        let os = made.outcomes in
        let printed : Appends before.written after.written (texts os) = subst (λ w. Appends before.written w (texts os)) (sym same_written) made.printed in
        let reported : Appends before.reported after.reported (reports_from 1 os) = subst (λ e. Appends before.reported e (reports_from 1 os)) (sym same_reported) made.reported in
        record {
          ends = record {
            taken = lines stands.prefix;
            lead = leads before.left after.left stands.prefix (stands.rest ++ bytes) came_all stands.ends;
            reported_of = os;
            others = [];
            given = subst (GiveAll t nearest (lines stands.prefix)) (sym (append-nil os)) made.given;
            printed = all_gained before.written after.written (texts os) printed;
            reported = ([], subst (Appends before.reported after.reported) (sym (append-nil (reports_from 1 os))) reported);
            report_prefix = subst (λ ps. AppendsPrefix before.reported after.reported (reports_from 1 ps)) (sym (append-nil os)) (all_gained before.reported after.reported (reports_from 1 os) reported);
          };
          device = record { reads = read.none_failed ∙ stands.none_failed.reads; writes = none.0 ∙ stands.none_failed.writes; reports = none.1 ∙ stands.none_failed.reports };
          reads = calls_one;
        }

    -- of these lines the texts and the reports are pending
    module _ (ls : List (List ℕ)) (takes : TakesLines t nearest ls l l') where
      abbrev os : List Outcome
      os = stands.taken.outcomes

      all_given : GiveAll t nearest (lines stands.prefix ++ ls) (os ++ takes.outcomes)
      all_given = give_all_append t nearest (lines stands.prefix) ls os takes.outcomes stands.taken.given takes.given

      all_texts : texts (os ++ takes.outcomes) ≡ texts os ++ l'.text.items
      all_texts = flat_map-append text_of os takes.outcomes ∙ ap (λ b. texts os ++ b) (sym (takes.text_is ∙ ap (λ b. b ++ texts takes.outcomes) stands.no_text))

      all_reports : reports_from 1 (os ++ takes.outcomes) ≡ reports_from 1 os ++ l'.report.items
      all_reports =
          let from : 1 + length os ≡ l.counts.lines + 1 = omega (arith, ap (λ (c : Counts). c.lines) stands.taken.counted, count_lines (counts_of []) os) in
          reports_append 1 os takes.outcomes ∙ ap (λ n. reports_from 1 os ++ reports_from n takes.outcomes) from ∙ ap (λ b. reports_from 1 os ++ b) (sym (takes.report_is ∙ ap (λ b. b ++ reports_from (l.counts.lines + 1) takes.outcomes) stands.no_report))

      all_counts : l'.counts ≡ counts_of (os ++ takes.outcomes)
      all_counts = takes.counted ∙ ap (λ c. counts_after c takes.outcomes) stands.taken.counted ∙ counts_append (counts_of []) os takes.outcomes

      -- they are written
      takes_out : (counts : Counts) (all : List ℕ) → lines all ≡ lines stands.prefix ++ ls → counts ≡ l'.counts → l'.counts.lines ≤ most_lines → WritesPending {T = Unit {0}} l'.text.items l'.report.items now.written after.written now.reported after.reported (Ok tt) → Takes t nearest before after counts all
      takes_out counts all is same few out = record {
        outcomes = os ++ takes.outcomes;
        given = subst (λ b. GiveAll t nearest b (os ++ takes.outcomes)) (sym is) all_given;
        numbered = omega (arith, few, ap (λ (c : Counts). c.lines) all_counts, count_lines (counts_of []) (os ++ takes.outcomes));
        printed = subst (Appends before.written after.written) (sym all_texts) (Appends-trans before.written now.written after.written (texts os) l'.text.items stands.taken.printed out.0);
        reported = subst (Appends before.reported after.reported) (sym all_reports) (Appends-trans before.reported now.reported after.reported (reports_from 1 os) l'.report.items stands.taken.reported out.1);
        counted = same ∙ all_counts;
      }

      -- or a sink fails
      pub sink_end : (counts : Counts) (fault : RunFault) → Leads before.left (lines stands.prefix ++ ls) → WritesPending {T = Unit {0}} l'.text.items l'.report.items now.written after.written now.reported after.reported (Err fault)
          → FailsPending {T = Unit {0}} now.failed_writes after.failed_writes now.failed_reports after.failed_reports (Err fault) → Encodes {T = Unit {0}} t nearest before after counts (Err fault)
      sink_end counts Report lead out fails = record {
        ends = record {
          taken = lines stands.prefix ++ ls;
          lead = lead;
          reported_of = os;
          others = takes.outcomes;
          given = all_given;
          printed = all_gained before.written after.written (texts os) (subst (λ w. Appends before.written w (texts os)) (sym out.0) stands.taken.printed);
          reported = prefix_more before.reported now.reported after.reported (reports_from 1 os) l'.report.items stands.taken.reported out.1;
          report_prefix = more_prefix before.reported now.reported after.reported (reports_from 1 os) l'.report.items _ stands.taken.reported out.1 all_reports;
        };
        device = record { reads = read.none_failed ∙ stands.none_failed.reads; writes = fails.1 ∙ stands.none_failed.writes; reports = subst (λ n. HasFailed n after.failed_reports) stands.none_failed.reports fails.0 };
        reads = calls_one;
      }
      sink_end counts Write lead out fails =
          let all = os ++ takes.outcomes in
          let reported : Appends before.reported after.reported (reports_from 1 all) = subst (Appends before.reported after.reported) (sym all_reports) (Appends-trans before.reported now.reported after.reported (reports_from 1 os) l'.report.items stands.taken.reported out.1) in
          record {
            ends = record {
              taken = lines stands.prefix ++ ls;
              lead = lead;
              reported_of = all;
              others = [];
              given = subst (GiveAll t nearest (lines stands.prefix ++ ls)) (sym (append-nil all)) all_given;
              printed = more_prefix before.written now.written after.written (texts os) l'.text.items _ stands.taken.printed out.0 all_texts;
              reported = ([], subst (Appends before.reported after.reported) (sym (append-nil (reports_from 1 all))) reported);
              report_prefix = subst (λ ps. AppendsPrefix before.reported after.reported (reports_from 1 ps)) (sym (append-nil all)) (all_gained before.reported after.reported (reports_from 1 all) reported);
            };
            device = record { reads = read.none_failed ∙ stands.none_failed.reads; writes = subst (λ n. HasFailed n after.failed_writes) stands.none_failed.writes fails.0; reports = fails.1 ∙ stands.none_failed.reports };
            reads = calls_one;
          }
      sink_end counts _ lead out fails = absurd out

      -- no more lines are counted, and more came
      pub full_end : (counts : Counts) (prefix more : List ℕ) → ls ≡ lines prefix → stands.rest ++ bytes ≡ prefix ++ more → IsEmptyOrEndsWith prefix line_feed → 0 < length more → l'.counts.lines ≡ most_lines → counts ≡ l'.counts
          → WritesPending {T = Unit {0}} l'.text.items l'.report.items now.written after.written now.reported after.reported (Ok tt) → FailsPending {T = Unit {0}} now.failed_writes after.failed_writes now.failed_reports after.failed_reports (Ok tt)
          → Encodes {T = Unit {0}} t nearest before after counts (Err TooManyLines)
      full_end counts prefix more is split ends some full same out fails = record {
        ends = record {
          prefix = stands.prefix ++ prefix;
          more = more;
          given = subst (Consumes before.left after.left) (ap (λ b. stands.prefix ++ b) split ∙ sym (append_assoc stands.prefix prefix more)) came_all;
          ends = ends_append stands.prefix prefix stands.ends ends;
          some = some;
          full = ap (λ (c : Counts). c.lines) same ∙ full;
          taken = takes_out counts (stands.prefix ++ prefix) (lines-append stands.prefix prefix stands.ends ∙ ap (λ b. lines stands.prefix ++ b) (sym is)) same (omega (arith, full)) out;
        };
        device = record { reads = read.none_failed ∙ stands.none_failed.reads; writes = fails.0 ∙ stands.none_failed.writes; reports = fails.1 ∙ stands.none_failed.reports };
        reads = calls_one;
      }

    -- the lines that end in the bytes are taken and written
    pub goes_on : (kept' : List ℕ) (l'' : Ledger) → 0 < length bytes → TakesBytes t nearest stands.rest bytes [] kept' l l' → l'.counts.lines ≤ most_lines → l''.counts ≡ l'.counts → (l''.text.items ≡ []) × (l''.report.items ≡ [])
        → WritesPending {T = Unit {0}} l'.text.items l'.report.items now.written after.written now.reported after.reported (Ok tt) → FailsPending {T = Unit {0}} now.failed_writes after.failed_writes now.failed_reports after.failed_reports (Ok tt)
        → Stands after kept' l'' (reads + 1)
    goes_on kept' l'' some fed few same none out fails = record {
      prefix = stands.prefix ++ fed.prefix;
      rest = fed.rest;
      came = subst (Consumes before.left after.left) (ap (λ b. stands.prefix ++ b) (fed.split ∙ ap (λ b. fed.prefix ++ b) (append-nil fed.rest)) ∙ sym (append_assoc stands.prefix fed.prefix fed.rest)) came_all;
      ends = ends_append stands.prefix fed.prefix stands.ends fed.ends;
      no_feed = fed.no_feed;
      kept_is = fed.kept_is;
      taken = takes_out (lines fed.prefix) fed.taken l''.counts (stands.prefix ++ fed.prefix) (lines-append stands.prefix fed.prefix stands.ends) same few out;
      no_text = none.0;
      no_report = none.1;
      called = calls_more before.calls now.calls after.calls 0 reads (reads + 1) stands.called read.calls refl;
      bytes = reads_some before.left now.left after.left before.calls now.calls after.calls bytes stands.bytes read.given read.calls some;
      none_failed = record { reads = read.none_failed ∙ stands.none_failed.reads; writes = fails.0 ∙ stands.none_failed.writes; reports = fails.1 ∙ stands.none_failed.reports };
    }

    pub lead_fed : (prefix more : List ℕ) → stands.rest ++ bytes ≡ prefix ++ more → IsEmptyOrEndsWith prefix line_feed → Leads before.left (lines stands.prefix ++ lines prefix)
    lead_fed prefix more split ends = subst (Leads before.left) (lines-append stands.prefix prefix stands.ends)
        (leads before.left after.left (stands.prefix ++ prefix) more (subst (Consumes before.left after.left) (ap (λ b. stands.prefix ++ b) split ∙ sym (append_assoc stands.prefix prefix more)) came_all) (ends_append stands.prefix prefix stands.ends ends))

    -- it found the end: the unfinished line there is taken
    module _ (none : bytes ≡ []) (end : IsAtEnd after.left) where
      came_whole : Consumes before.left after.left (stands.prefix ++ stands.rest)
      came_whole = subst (λ b. Consumes before.left after.left (stands.prefix ++ b)) (ap (λ b. stands.rest ++ b) none ∙ append-nil stands.rest) came_all

      pub lead_rest : Leads before.left (lines stands.prefix ++ lines stands.rest)
      lead_rest = subst (Leads before.left) (lines-append stands.prefix stands.rest stands.ends) (leads_all before.left after.left (stands.prefix ++ stands.rest) came_whole end)

      pub whole_end : (counts : Counts) → TakesLines t nearest (lines stands.rest) l l' → l'.counts.lines ≤ most_lines → counts ≡ l'.counts
          → WritesPending {T = Unit {0}} l'.text.items l'.report.items now.written after.written now.reported after.reported (Ok tt) → FailsPending {T = Unit {0}} now.failed_writes after.failed_writes now.failed_reports after.failed_reports (Ok tt)
          → Encodes {T = Unit {0}} t nearest before after counts (Ok tt)
      whole_end counts takes few same out fails = record {
        ends = record { came = stands.prefix ++ stands.rest; given = came_whole; at_end = end; taken = takes_out (lines stands.rest) takes counts (stands.prefix ++ stands.rest) (lines-append stands.prefix stands.rest stands.ends) same few out };
        device = record { reads = read.none_failed ∙ stands.none_failed.reads; writes = fails.0 ∙ stands.none_failed.writes; reports = fails.1 ∙ stands.none_failed.reports };
        reads = calls_one;
      }

  -- what a read gave is taken and written, or a fault ends the run
  module _ (now after : Devices) (kept kept' : List ℕ) (l l' l'' : Ledger) (reads : ℕ) (stands : Stands now kept l reads) (bytes : List ℕ) (read : HasRead now after bytes) (end : length bytes ≡ 0 → IsAtEnd after.left) (same : l''.counts ≡ l'.counts) where
    abbrev SettlesSo : Result (Unit {0}) RunFault → Result (Unit {0}) RunFault → Type 0
    SettlesSo taken r = Settles taken l'.text.items l'.report.items now.written after.written now.reported after.reported now.failed_writes after.failed_writes now.failed_reports after.failed_reports r

    abbrev Taken : Result (Unit {0}) RunFault → Type 0
    Taken taken = TakesRead {T = Unit {0}} t nearest stands.rest bytes kept' l l' taken

    none_left : length bytes ≡ 0 → bytes ≡ []
    none_left none = nil_from_length bytes none

    -- the lines that were taken lead the log
    abbrev LeadingLines : Type 0
    LeadingLines = (ls : List (List ℕ)) × TakesLines t nearest ls l l' × Leads before.left (lines stands.prefix ++ ls)

    fed_lines : (x : Unit {0}) → Taken (Ok x) → LeadingLines
    fed_lines x taken = elim (cases_lt 0 (length bytes)) [
      | inl some ↦ let fed = taken.with_bytes some in (lines fed.prefix, fed.taken, lead_fed now after kept l l' reads stands bytes read fed.prefix (fed.rest ++ []) fed.split fed.ends)
      | inr few ↦ let none : length bytes ≡ 0 = omega (arith, few) in (lines stands.rest, taken.at_end none, lead_rest now after kept l l' reads stands bytes read (none_left none) (end none))
    ]

    most_lines_taken : Taken (Err TooManyLines) → (ls : List (List ℕ)) × (prefix more : List ℕ) × TakesLines t nearest ls l l' × (ls ≡ lines prefix) × (stands.rest ++ bytes ≡ prefix ++ more) × IsEmptyOrEndsWith prefix line_feed × (0 < length more) × (l'.counts.lines ≡ most_lines)
    most_lines_taken taken = elim (cases_lt 0 (length bytes)) [
      | inl some ↦ let fed = taken.with_bytes some in (lines fed.prefix, fed.prefix, fed.more, fed.taken, refl, fed.split, fed.ends, fed.some, fed.full)
      | inr few ↦
          let rest = taken.at_end (omega (arith, few)) in
          ([], [], stands.rest ++ bytes, subst (TakesLines t nearest [] l) (sym rest.0) (takes_none t nearest l), refl, refl, (λ some. absurd (omega (arith, some))), omega (arith, rest.2, length-append stands.rest bytes), ap (λ (k : Ledger). k.counts.lines) rest.0 ∙ rest.1)
    ]

    pub settled_fault : (taken : Result (Unit {0}) RunFault) (fault : RunFault) → Taken taken → SettlesSo taken (Err fault) → Encodes {T = Unit {0}} t nearest before after l''.counts (Err fault)
    settled_fault (Ok x) fault taken settles =
        let ls = fed_lines x taken in
        sink_end now after kept l l' reads stands bytes read ls.0 ls.1 l''.counts fault ls.2 settles.0 settles.1
    settled_fault (Err TooManyLines) TooManyLines taken settles =
        let m = most_lines_taken taken in
        full_end now after kept l l' reads stands bytes read m.0 m.3 l''.counts m.1 m.2 m.4 m.5 m.6 m.7 m.8 same settles.0 settles.1
    settled_fault (Err TooManyLines) fault taken settles =
        let m = most_lines_taken taken in
        let lead : Leads before.left (lines stands.prefix ++ m.0) = subst (λ ls. Leads before.left (lines stands.prefix ++ ls)) (sym m.4) (lead_fed now after kept l l' reads stands bytes read m.1 m.2 m.5 m.6) in
        sink_end now after kept l l' reads stands bytes read m.0 m.3 l''.counts fault lead settles.0 settles.1
    settled_fault (Err Memory) Memory taken settles = memory_end now after kept l l' reads stands bytes read l''.counts settles.0 settles.1 (settles.2, settles.3)
    settled_fault (Err Memory) _ taken settles = absurd settles
    settled_fault (Err _) fault taken settles = elim (cases_lt 0 (length bytes)) [ inl some ↦ absurd (taken.with_bytes some) | inr few ↦ absurd (taken.at_end (omega (arith, few))) ]

    pub settled_end : (taken : Result (Unit {0}) RunFault) → length bytes ≡ 0 → Taken taken → OnOk taken (l'.counts.lines ≤ most_lines) → SettlesSo taken (Ok tt) → Encodes {T = Unit {0}} t nearest before after l''.counts (Ok tt)
    settled_end (Ok x) none taken few settles =
        whole_end now after kept l l' reads stands bytes read (none_left none) (end none) l''.counts (taken.at_end none) few same settles.0 settles.1
    settled_end (Err TooManyLines) none taken few settles = absurd settles
    settled_end (Err Memory) none taken few settles = absurd settles
    settled_end (Err _) none taken few settles = absurd (taken.at_end none)

    -- what holds if all was taken
    pub settled_so : (P : Type 0) (taken : Result (Unit {0}) RunFault) → 0 < length bytes → Taken taken → OnOk taken P → SettlesSo taken (Ok tt) → P
    settled_so P (Ok x) some taken holds settles = holds
    settled_so P (Err TooManyLines) some taken holds settles = absurd settles
    settled_so P (Err Memory) some taken holds settles = absurd settles
    settled_so P (Err _) some taken holds settles = absurd (taken.with_bytes some)

    pub settled_more : (taken : Result (Unit {0}) RunFault) → 0 < length bytes → Taken taken → OnOk taken (l'.counts.lines ≤ most_lines) → SettlesSo taken (Ok tt) → (l''.text.items ≡ []) × (l''.report.items ≡ []) → Stands after kept' l'' (reads + 1)
    settled_more (Ok x) some taken few settles none = goes_on now after kept l l' reads stands bytes read kept' l'' some (taken.with_bytes some) few same none settles.0 settles.1
    settled_more (Err TooManyLines) some taken few settles none = absurd settles
    settled_more (Err Memory) some taken few settles none = absurd settles
    settled_more (Err _) some taken few settles none = absurd (taken.with_bytes some)

  -- no more is read: the lines whose end came are written
  module _ (now : Devices) (kept : List ℕ) (l : Ledger) (reads : ℕ) (stands : Stands now kept l reads) where
    cut : (after : Devices) → Consumes before.left after.left (stands.prefix ++ stands.rest) → after.written ≡ now.written → after.reported ≡ now.reported → IsCut t nearest before after l.counts
    cut after given same_written same_reported = record {
      came = stands.prefix ++ stands.rest;
      given = given;
      taken = subst (Takes t nearest before after l.counts) (sym (whole_prefix stands.prefix stands.rest stands.ends stands.no_feed)) (record {
        outcomes = stands.taken.outcomes;
        given = stands.taken.given;
        numbered = stands.taken.numbered;
        printed = subst (λ w. Appends before.written w (texts stands.taken.outcomes)) (sym same_written) stands.taken.printed;
        reported = subst (λ e. Appends before.reported e (reports_from 1 stands.taken.outcomes)) (sym same_reported) stands.taken.reported;
        counted = stands.taken.counted;
      });
    }

    -- since the source failed
    pub read_end : (after : Devices) → Keeps now.left after.left → after.calls ≡ one_more now.calls → after.failed_reads ≡ one_more now.failed_reads → after.written ≡ now.written → after.reported ≡ now.reported → (after.failed_writes ≡ now.failed_writes) × (after.failed_reports ≡ now.failed_reports)
        → Encodes {T = Unit {0}} t nearest before after l.counts (Err Read)
    read_end after given calls failed same_written same_reported none = record {
      ends = cut after (subst (Consumes before.left after.left) (append-nil (stands.prefix ++ stands.rest)) (Consumes-trans before.left now.left after.left (stands.prefix ++ stands.rest) [] stands.came (keeps_none now.left after.left given))) same_written same_reported;
      device = record {
        reads = inl (subst (λ n. HasFailed n after.failed_reads) stands.none_failed.reads (grind arith));
        writes = none.0 ∙ stands.none_failed.writes;
        reports = none.1 ∙ stands.none_failed.reports;
      };
      reads = reads_one before.left now.left after.left before.calls now.calls after.calls [] stands.bytes (keeps_none now.left after.left given) calls;
    }

    -- since so many reads found no end
    pub reads_end : reads ≡ most_reads → Encodes {T = Unit {0}} t nearest before now l.counts (Err Read)
    reads_end all = record {
      ends = cut now stands.came refl refl;
      device = record {
        reads = inr (calls_end before.calls now.calls reads stands.called all, stands.none_failed.reads);
        writes = stands.none_failed.writes;
        reports = stands.none_failed.reports;
      };
      reads = record { came = stands.bytes.came; given = stands.bytes.given; few = omega (arith, stands.bytes.few) };
    }

-- a fault after which nothing is written
pub settles_other : (fault : RunFault) (text report : List ℕ) (w e : Option (List ℕ)) (fw fe : ℕ) → (fault ≡ TooManyLines → ⊥) → Settles (Err fault) text report w w e e fw fw fe fe (Err fault)
settles_other TooManyLines text report w e fw fe other = absurd (other refl)
settles_other Memory text report w e fw fe other = (refl, refl, refl, refl)
settles_other _ text report w e fw fe other = tt

pub few_lines : (r : Result (Unit {0}) RunFault) (c : Counts) → OnOk r (AreCounts c) → OnOk r (c.lines ≤ most_lines)
few_lines (Ok x) c counts = counts.few
few_lines (Err fault) c counts = tt
