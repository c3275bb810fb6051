-- A decoder with more bytes fed, at the end of its log, and with what waits taken out.
use Rattle.std.proofs.Common.{◌≡◌, inl, inr, ℕ, zero, suc, ◌+◌, ◌-◌, ◌<◌, ◌≤◌, Bool, true, false, List, [], ◌∷◌, ◌++◌, length, take, drop, get_or, Result, Ok, Err, MatchResult, refl, sym, ap, subst, ◌∙◌, arith, append_assoc, eqb-true, append-nil, length-append}
use Rattle.std.specs.Io.{IsEmptyOrEndsWith}
use Rattle.std.proofs.Math.Seq.{take-suc}
use Rattle.std.proofs.lemmas.Bool.{false_from_ne_true}
use Rattle.std.proofs.lemmas.List.Elements.{All-append}
use Rattle.std.proofs.lemmas.List.{append_cancel_left, get_or-drop, length-drop, take-append-drop}
use Rattle.memchr.specs.Find.{Nowhere, Passes, NoneAfter, is_byte}
use Rattle.n2k_table.specs.Table.{TableParts}
use Rattle.n2k_join.specs.Counts.{most_lines}
use Rattle.n2k_join.specs.State.{State}
use Rattle.n2k_join.specs.declared.fault.StateFault.{StateFault}
use Rattle.n2k_run.specs.declared.fault.RunFault.{RunFault}
use Rattle.n2k_run.specs.declared.fault.RunFault.TheVariants as of_run
use Rattle.n2k_run.specs.Blocks.{HasNoFeed}
use Rattle.n2k_run.specs.Lines.{line_feed, is_line_feed, lines as log_lines, whole_lines}
use Rattle.n2k_run.specs.Reading.{most_reads}
use Rattle.n2k_run.proofs.Prefixes.{ends_feed, whole_prefix}
use Rattle.n2k_run.proofs.Splits.{lines-append}
use Rattle.n2k_c.specs.declared.decoder.Decoder.{Decoder}
use Rattle.n2k_c.specs.Answers.{EndsLog, IsStateOf, ClosesDecoder}
use Rattle.n2k_c.specs.declared.refusal.Refusal.{Refusal}
use Rattle.n2k_c.specs.Inner.{Gains, IsSavedOf, NotSavedOf, RunsCut, RunsMore, refusal_of_run}
use Rattle.n2k_c.specs.Job.{AreReports, IsOutput, Job}
use Rattle.n2k_c.specs.Queue.{Waiting}
use Rattle.n2k_c.specs.Stands.{HasTaken, IsAfter, Stands, taken_of}

-- ---- whole lines

-- bytes are whole lines and then a line that is cut
record Cut (bytes : List ℕ) : Type 0 where
  lines : List ℕ
  rest : List ℕ
  is : bytes ≡ lines ++ rest
  ends : IsEmptyOrEndsWith lines line_feed
  none : HasNoFeed rest

no_feed_before : (b : ℕ) (rest : List ℕ) → is_line_feed b ≡ false → HasNoFeed rest → HasNoFeed (b ∷ rest)
no_feed_before b rest feed none zero d below = feed
no_feed_before b rest feed none (suc k) d below = none k d (omega (arith, below))

cut_at : (b : ℕ) (bs rest : List ℕ) → bs ≡ rest → HasNoFeed rest → (feed : Bool) → is_line_feed b ≡ feed → Cut (b ∷ bs)
cut_at b bs rest is none true feed = record {
  lines = b ∷ [];
  rest = rest;
  is = ap (λ x. b ∷ x) is;
  ends = λ some. eqb-true b 10 feed;
  none = none;
}
cut_at b bs rest is none false feed = record {
  lines = [];
  rest = b ∷ rest;
  is = ap (λ x. b ∷ x) is;
  ends = λ some. absurd (omega (arith, some));
  none = no_feed_before b rest feed none;
}

cut_before : (b : ℕ) (bs lines rest : List ℕ) → bs ≡ lines ++ rest → IsEmptyOrEndsWith lines line_feed → HasNoFeed rest → Cut (b ∷ bs)
cut_before b bs [] rest is ends none = cut_at b bs rest is none (is_line_feed b) refl
cut_before b bs (x ∷ lines) rest is ends none =
    let last : length (b ∷ x ∷ lines) - 1 ≡ suc (length (x ∷ lines) - 1) = omega arith in
    record {
      lines = b ∷ x ∷ lines;
      rest = rest;
      is = ap (λ y. b ∷ y) is;
      ends = λ some. ap (λ i. get_or (b ∷ x ∷ lines) i 0) last ∙ ends (omega arith);
      none = none;
    }

cut_of : (bytes : List ℕ) → Cut bytes
cut_of [] = record { lines = []; rest = []; is = refl; ends = λ some. absurd (omega (arith, some)); none = λ k d below. absurd (omega (arith, below)) }
cut_of (b ∷ bs) = let cut = cut_of bs in cut_before b bs cut.lines cut.rest cut.is cut.ends cut.none

whole_is : (bytes : List ℕ) (cut : Cut bytes) → whole_lines bytes ≡ cut.lines
whole_is bytes cut = ap whole_lines cut.is ∙ whole_prefix cut.lines cut.rest cut.ends cut.none

pub whole_ends : (bytes : List ℕ) → IsEmptyOrEndsWith (whole_lines bytes) line_feed
whole_ends bytes = let cut = cut_of bytes in subst (λ ls. IsEmptyOrEndsWith ls line_feed) (sym (whole_is bytes cut)) cut.ends

-- what waits has no line's end
waits_no_feed : (fed rest : List ℕ) → fed ≡ whole_lines fed ++ rest → HasNoFeed rest
waits_no_feed fed rest is =
    let cut = cut_of fed in
    let same : cut.lines ++ rest ≡ cut.lines ++ cut.rest = ap (λ ls. ls ++ rest) (sym (whole_is fed cut)) ∙ sym is ∙ cut.is in
    subst HasNoFeed (sym (append_cancel_left cut.lines rest cut.rest same)) cut.none

both_no_feed : (a b : List ℕ) → HasNoFeed a → HasNoFeed b → HasNoFeed (a ++ b)
both_no_feed a b none_a none_b = All-append (λ byte. is_line_feed byte ≡ false) a b none_a none_b

same_default : (l : List ℕ) (i d e : ℕ) → i < length l → get_or l i d ≡ get_or l i e
same_default [] i d e below = absurd (omega (arith, below))
same_default (x ∷ l) zero d e below = refl
same_default (x ∷ l) (suc i) d e below = same_default l i d e (omega (arith, below))

nowhere_no_feed : (bytes : List ℕ) → Nowhere (Passes (is_byte 10) bytes) 0 (length bytes) → HasNoFeed bytes
nowhere_no_feed bytes none = λ k d below. ap is_line_feed (same_default bytes k d 0 below) ∙ false_from_ne_true _ (none k (omega arith) below)

no_feed_after : (bytes rest : List ℕ) (last : ℕ) → rest ≡ drop (last + 1) bytes → NoneAfter (Passes (is_byte 10) bytes) 0 (length bytes) last → HasNoFeed rest
no_feed_after bytes rest last is none = subst HasNoFeed (sym is) (λ k d below.
    let all = length-drop (last + 1) bytes in
    let high : last + 1 + k < length bytes = omega (arith, all, below) in
    let low : last + 1 ≤ last + 1 + k = omega arith in
    ap is_line_feed (get_or-drop (last + 1) bytes k d ∙ same_default bytes (last + 1 + k) d 0 high) ∙ false_from_ne_true _ (none.after (last + 1 + k) low high))

ends_at_feed : (bytes lines : List ℕ) (last : ℕ) → lines ≡ take (last + 1) bytes → NoneAfter (Passes (is_byte 10) bytes) 0 (length bytes) last → Passes (is_byte 10) bytes last → lines ≡ take last bytes ++ (10 ∷ [])
ends_at_feed bytes lines last is none passes =
    let one : last + 1 ≡ suc last = omega arith in
    is ∙ ap (λ n. take n bytes) one ∙ take-suc bytes last 0 none.high ∙ ap (λ b. take last bytes ++ (b ∷ [])) (eqb-true (get_or bytes last 0) 10 passes)

-- ---- a line that is cut, taken as it is

-- what was taken, of a decoder with the same table, work and texts
pub same_taken : (t : TableParts) (job : Job) (taken printed reported : List ℕ) (d d' : Decoder) → d'.table.value ≡ d.table.value → d'.work ≡ d.work → d'.output ≡ d.output → d'.reports ≡ d.reports
    → HasTaken t job taken printed reported d → HasTaken t job taken printed reported d'
same_taken t job taken printed reported d d' table work output waiting b = record {
  table = table ∙ b.table;
  leads_to = subst (IsAfter t job taken) (sym work) b.leads_to;
  output = subst (λ (w : Waiting). IsOutput t job taken (printed ++ w.held)) (sym output) b.output;
  reports = subst (λ (w : Waiting). AreReports t job taken (reported ++ w.held)) (sym waiting) b.reports;
}

module _ (t : TableParts) (job : Job) (taken printed reported : List ℕ) (d d' : Decoder) where
  gains_cut : d'.table.value ≡ d.table.value → HasTaken t job taken printed reported d → Gains t job taken d.cut.items d'.work d.output.held d'.output.held d.reports.held d'.reports.held
      → HasTaken t job (taken ++ d.cut.items) printed reported d'
  gains_cut same b more = record {
    table = same ∙ b.table;
    leads_to = more.leads_to;
    output = subst (IsOutput t job (taken ++ d.cut.items)) (append_assoc printed d.output.held more.text ∙ ap (λ x. printed ++ x) (sym more.printed)) (more.output_is (printed ++ d.output.held) b.output);
    reports = subst (AreReports t job (taken ++ d.cut.items)) (append_assoc reported d.reports.held more.report ∙ ap (λ x. reported ++ x) (sym more.reported)) (more.reports_are (reported ++ d.reports.held) b.reports);
  }

  ends_cut : (result : Result (Unit {0}) RunFault) → d'.table.value ≡ d.table.value → HasTaken t job taken printed reported d
      → RunsMore t job taken d.cut.items d'.work d.output.held d'.output.held d.reports.held d'.reports.held result → RunsCut t job taken printed reported d d' result
  ends_cut (Ok x) same b more = gains_cut same b more
  ends_cut (Err of_run.TooManyLines) same b more = more
  ends_cut (Err of_run.Read) same b more = more
  ends_cut (Err _) same b more = tt

  pub runs_cut : (x : TableParts) (more : List ℕ) (result : Result (Unit {0}) RunFault) → x ≡ d.table.value → more ≡ d.cut.items → d'.table.value ≡ d.table.value
      → ((j : Job) (prefix : List ℕ) → IsEmptyOrEndsWith prefix line_feed → IsAfter x j prefix d.work
      → RunsMore x j prefix more d'.work d.output.held d'.output.held d.reports.held d'.reports.held result)
      → IsEmptyOrEndsWith taken line_feed → HasTaken t job taken printed reported d → RunsCut t job taken printed reported d d' result
  runs_cut x more result is_x is_more same runs whole b =
      let is_t : x ≡ t = is_x ∙ b.table in
      let after = subst (λ (y : TableParts). IsAfter y job taken d.work) (sym is_t) b.leads_to in
      let ran = subst (λ (y : TableParts). RunsMore y job taken more d'.work d.output.held d'.output.held d.reports.held d'.reports.held result) is_t (runs job taken whole after) in
      ends_cut result same b (subst (λ m. RunsMore t job taken m d'.work d.output.held d'.output.held d.reports.held d'.reports.held result) is_more ran)

-- ---- n2k_feed

module _ (t : TableParts) (job : Job) (fed printed reported : List ℕ) where
  -- no line ends in the bytes: they wait
  pub stands_longer : (d d' : Decoder) (bytes : List ℕ) → Nowhere (Passes (is_byte 10) bytes) 0 (length bytes) → d'.cut.items ≡ d.cut.items ++ bytes → d'.ended ≡ d.ended
      → ((ls : List ℕ) → HasTaken t job ls printed reported d → HasTaken t job ls printed reported d')
      → Stands t job fed false printed reported d → Stands t job (fed ++ bytes) false printed reported d'
  stands_longer d d' bytes none cut log to s =
      let both : HasNoFeed (d.cut.items ++ bytes) = both_no_feed d.cut.items bytes (waits_no_feed fed d.cut.items s.fed_is) (nowhere_no_feed bytes none) in
      let split : fed ++ bytes ≡ whole_lines fed ++ (d.cut.items ++ bytes) = ap (λ x. x ++ bytes) s.fed_is ∙ append_assoc (whole_lines fed) d.cut.items bytes in
      let whole : whole_lines (fed ++ bytes) ≡ whole_lines fed = ap whole_lines split ∙ whole_prefix (whole_lines fed) (d.cut.items ++ bytes) (whole_ends fed) both in
      record {
        ended = log ∙ s.ended;
        fed_is = split ∙ ap (λ x. x ++ (d.cut.items ++ bytes)) (sym whole) ∙ ap (λ x. whole_lines (fed ++ bytes) ++ x) (sym cut);
        taken = subst (λ ls. HasTaken t job ls printed reported d') (sym whole) (to (whole_lines fed) s.taken);
      }

  -- d at first, d₁ with lines to take, d₂ after them, and d₃ with the rest
  module _ (d d₁ : Decoder) (bytes lines rest : List ℕ) (last : ℕ) (is_lines : lines ≡ take (last + 1) bytes) (is_rest : rest ≡ drop (last + 1) bytes)
      (none : NoneAfter (Passes (is_byte 10) bytes) 0 (length bytes) last) (passes : Passes (is_byte 10) bytes last) (cut : d₁.cut.items ≡ d.cut.items ++ lines) (s : Stands t job fed false printed reported d) where
    prefix : List ℕ
    prefix = whole_lines fed ++ d₁.cut.items

    split : bytes ≡ lines ++ rest
    split = sym (ap (λ x. x ++ rest) is_lines ∙ ap (λ x. take (last + 1) bytes ++ x) is_rest ∙ take-append-drop (last + 1) bytes)

    all : fed ++ bytes ≡ prefix ++ rest
    unfolding prefix
    all =
        ap (λ x. x ++ bytes) s.fed_is ∙ ap (λ x. (whole_lines fed ++ d.cut.items) ++ x) split ∙ sym (append_assoc (whole_lines fed ++ d.cut.items) lines rest)
        ∙ ap (λ x. x ++ rest) (append_assoc (whole_lines fed) d.cut.items lines ∙ ap (λ x. whole_lines fed ++ x) (sym cut))

    whole : IsEmptyOrEndsWith prefix line_feed
    unfolding prefix
    whole =
        let before = take last bytes in
        let shape : whole_lines fed ++ d₁.cut.items ≡ (whole_lines fed ++ (d.cut.items ++ before)) ++ (10 ∷ []) =
        ap (λ x. whole_lines fed ++ x) (cut ∙ ap (λ x. d.cut.items ++ x) (ends_at_feed bytes lines last is_lines none passes) ∙ sym (append_assoc d.cut.items before (10 ∷ []))) ∙ sym (append_assoc (whole_lines fed) (d.cut.items ++ before) (10 ∷ [])) in
        subst (λ x. IsEmptyOrEndsWith x line_feed) (sym shape) (ends_feed (whole_lines fed ++ (d.cut.items ++ before)))

    pub stands_more : (d₂ d₃ : Decoder) → d₂.cut.items ≡ [] → d₃.cut.items ≡ d₂.cut.items ++ rest → d₁.ended ≡ d.ended → d₂.ended ≡ d₁.ended → d₃.ended ≡ d₂.ended
        → ((ls : List ℕ) → HasTaken t job ls printed reported d → HasTaken t job ls printed reported d₁)
        → ((ls : List ℕ) → IsEmptyOrEndsWith ls line_feed → HasTaken t job ls printed reported d₁ → HasTaken t job (ls ++ d₁.cut.items) printed reported d₂)
        → ((ls : List ℕ) → HasTaken t job ls printed reported d₂ → HasTaken t job ls printed reported d₃)
        → Stands t job (fed ++ bytes) false printed reported d₃
    unfolding prefix
    stands_more d₂ d₃ none_left cut₃ log₁ log₂ log₃ to₁ to₂ to₃ =
        let left : d₃.cut.items ≡ rest = cut₃ ∙ ap (λ x. x ++ rest) none_left in
        let is : whole_lines (fed ++ bytes) ≡ prefix = ap whole_lines all ∙ whole_prefix prefix rest whole (no_feed_after bytes rest last is_rest none) in
        record {
          ended = log₃ ∙ log₂ ∙ log₁ ∙ s.ended;
          fed_is = all ∙ ap (λ x. x ++ rest) (sym is) ∙ ap (λ x. whole_lines (fed ++ bytes) ++ x) (sym left);
          taken = subst (λ ls. HasTaken t job ls printed reported d₃) (sym is) (to₃ prefix (to₂ (whole_lines fed) (whole_ends fed) (to₁ (whole_lines fed) s.taken)));
        }

    pub too_many : most_lines < length (log_lines (whole_lines fed ++ d₁.cut.items)) → most_lines < length (log_lines (fed ++ bytes))
    unfolding prefix
    too_many past =
        let ls = ap length (ap log_lines all ∙ lines-append prefix rest whole) ∙ length-append (log_lines prefix) (log_lines rest) in
        omega (arith, ls, past)

    pub too_long : most_reads ≤ length d₁.cut.items + 1 → most_reads ≤ length d.cut.items + length bytes + 1
    too_long many =
        let in_cut = ap length cut ∙ length-append d.cut.items lines in
        let in_bytes = ap length split ∙ length-append lines rest in
        omega (arith, in_cut, in_bytes, many)

-- a fault while the lines of a piece are taken
pub spends_more : (d d₁ d₂ : Decoder) (bytes lines rest : List ℕ) (last : ℕ) (fault : RunFault) → lines ≡ take (last + 1) bytes → rest ≡ drop (last + 1) bytes
    → NoneAfter (Passes (is_byte 10) bytes) 0 (length bytes) last → Passes (is_byte 10) bytes last → d₁.cut.items ≡ d.cut.items ++ lines
    → ((t : TableParts) (job : Job) (ls printed reported : List ℕ) → HasTaken t job ls printed reported d → HasTaken t job ls printed reported d₁)
    → ((t : TableParts) (job : Job) (ls printed reported : List ℕ) → IsEmptyOrEndsWith ls line_feed → HasTaken t job ls printed reported d₁ → RunsCut t job ls printed reported d₁ d₂ (Err fault))
    → ClosesDecoder bytes d (refusal_of_run fault)
spends_more d d₁ d₂ bytes lines rest last of_run.TooManyLines is_lines is_rest none passes cut to runs = λ t job fed printed reported s.
    inl (too_many t job fed printed reported d d₁ bytes lines rest last is_lines is_rest none passes cut s (runs t job (whole_lines fed) printed reported (whole_ends fed) (to t job (whole_lines fed) printed reported s.taken)))
spends_more d d₁ d₂ bytes lines rest last of_run.Read is_lines is_rest none passes cut to runs = λ t job fed printed reported s.
    let many = runs t job (whole_lines fed) printed reported (whole_ends fed) (to t job (whole_lines fed) printed reported s.taken) in
    inr (many.0, too_long t job fed printed reported d d₁ bytes lines rest last is_lines is_rest none passes cut s many.1)
spends_more d d₁ d₂ bytes lines rest last _ is_lines is_rest none passes cut to runs = tt

-- ---- n2k_end

pub ends_log : (d d' d'' : Decoder) → d'.cut.items ≡ [] → d''.cut.items ≡ d'.cut.items → d''.ended ≡ true
    → ((t : TableParts) (job : Job) (ls printed reported : List ℕ) → IsEmptyOrEndsWith ls line_feed → HasTaken t job ls printed reported d → HasTaken t job (ls ++ d.cut.items) printed reported d')
    → ((t : TableParts) (job : Job) (ls printed reported : List ℕ) → HasTaken t job ls printed reported d' → HasTaken t job ls printed reported d'') → EndsLog d d''
ends_log d d' d'' cut cut' log to to' = λ t job fed printed reported s. record {
  ended = log;
  fed_is = sym (ap (λ x. fed ++ x) (cut' ∙ cut) ∙ append-nil fed);
  taken = to' t job fed printed reported (subst (λ ls. HasTaken t job ls printed reported d') (sym s.fed_is) (to t job (whole_lines fed) printed reported (whole_ends fed) s.taken));
}

pub spends_end : (d d' : Decoder) (fault : RunFault)
    → ((t : TableParts) (job : Job) (ls printed reported : List ℕ) → IsEmptyOrEndsWith ls line_feed → HasTaken t job ls printed reported d → RunsCut t job ls printed reported d d' (Err fault)) → ClosesDecoder [] d (refusal_of_run fault)
spends_end d d' of_run.TooManyLines runs = λ t job fed printed reported s.
    inl (subst (λ x. most_lines < length (log_lines x)) (sym (append-nil fed ∙ s.fed_is)) (runs t job (whole_lines fed) printed reported (whole_ends fed) s.taken))
spends_end d d' of_run.Read runs = λ t job fed printed reported s.
    let many = runs t job (whole_lines fed) printed reported (whole_ends fed) s.taken in
    inr (many.0, omega (arith, many.1))
spends_end d d' _ runs = tt

-- ---- what is opened

-- what was opened after these bytes
pub opened_at : (t : TableParts) (job : Job) (prefix printed reported : List ℕ) (d : Decoder) → d.table.value ≡ t → d.ended ≡ false → d.cut.items ≡ [] → d.output.held ≡ [] → d.reports.held ≡ []
    → IsEmptyOrEndsWith prefix line_feed → IsAfter t job prefix d.work → IsOutput t job prefix printed → AreReports t job prefix reported → Stands t job prefix false printed reported d
opened_at t job prefix printed reported d table log cut output waiting whole after prints tells =
    let is : whole_lines prefix ≡ prefix = ap whole_lines (sym (append-nil prefix)) ∙ whole_prefix prefix [] whole (λ k d below. absurd (omega (arith, below))) in
    record {
      ended = log;
      fed_is = sym (ap (λ x. whole_lines prefix ++ x) cut ∙ append-nil (whole_lines prefix) ∙ is);
      taken = subst (λ ls. HasTaken t job ls printed reported d) (sym is) (record {
        table = table;
        leads_to = after;
        output = subst (IsOutput t job prefix) (sym (ap (λ x. printed ++ x) output ∙ append-nil printed)) prints;
        reports = subst (AreReports t job prefix) (sym (ap (λ x. reported ++ x) waiting ∙ append-nil reported)) tells;
      });
    }

-- ---- what is saved

pub state_of : {T : Type 0} (items : T → List ℕ) (d : Decoder) (result : Result T Refusal) → MatchResult result (λ text. IsSavedOf (items text) d.work) (NotSavedOf d.work) → MatchResult result (λ text. IsStateOf (items text) d) (NotSavedOf d.work)
state_of items d (Ok text) saved = record { decodes = saved.decodes; is = λ t o fed ended printed reported s. saved.is t o (taken_of ended fed) s.taken.leads_to }
state_of items d (Err refusal) saved = saved

-- what a read gives is one
value_of : State → Result State StateFault → State
value_of d (Ok s) = s
value_of d (Err fault) = d

pub ok_is : (read : Result State StateFault) (a b : State) → read ≡ Ok a → read ≡ Ok b → a ≡ b
unfolding value_of
ok_is read a b is_a is_b = ap (value_of a) (sym is_a ∙ is_b)
