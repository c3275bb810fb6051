-- Bytes that wait: what is left of them when some are dropped or added, and their first line.
use Rattle.std.proofs.Common.{◌≡◌, ℕ, ◌+◌, ◌-◌, ◌≤◌, Bool, true, false, true≢false, if◌then◌else◌, List, [], ◌∷◌, ◌++◌, length, take, drop, refl, sym, ap, subst, ◌∙◌, arith, append_assoc, length-append}
use Rattle.std.proofs.lemmas.List.{drop-append-le, drop-drop, length-drop, length-take-le, take_all, take_at}
use Rattle.std.proofs.lemmas.List.Elements.{All-head, All-tail}
use Rattle.n2k_run.specs.Blocks.{HasNoFeed}
use Rattle.n2k_run.specs.Inner.Block.{EndsAt}
use Rattle.n2k_run.specs.Lines.{is_line_feed}
use Rattle.n2k_c.specs.declared.decoder.Decoder.{Decoder}
use Rattle.n2k_c.specs.Answers.{PrintsNext}
use Rattle.n2k_c.specs.Job.{IsOutput}
use Rattle.n2k_c.specs.Queue.{Waiting, first_line}
use Rattle.n2k_c.specs.Stands.{taken_of}

pub dropped_twice : (m n : ℕ) (bytes : List ℕ) → drop m (drop n bytes) ≡ drop (n + m) bytes
dropped_twice = drop-drop

pub dropped_before : (n : ℕ) (bytes more : List ℕ) → n ≤ length bytes → drop n (bytes ++ more) ≡ drop n bytes ++ more
dropped_before = drop-append-le

pub all_taken : (bytes : List ℕ) → take (length bytes) bytes ≡ bytes
all_taken bytes = take_all (length bytes) bytes (omega arith)

pub rotated : (bytes : List ℕ) (gone left : ℕ) → gone ≤ length bytes → left ≡ length bytes - gone → take left (drop gone bytes ++ take gone bytes) ≡ drop gone bytes
rotated bytes gone left within is = take_at (drop gone bytes) (take gone bytes) left (length-drop gone bytes ∙ sym is)

-- ---- the first line

abbrev is_plain : ℕ → Type 0
is_plain byte = is_line_feed byte ≡ false

no_line_at : (byte : ℕ) (bytes : List ℕ) (feed : Bool) → feed ≡ false → first_line bytes ≡ bytes → (if feed then byte ∷ [] else byte ∷ first_line bytes) ≡ byte ∷ bytes
no_line_at byte bytes true plain is = absurd (true≢false plain)
no_line_at byte bytes false plain is = ap (λ l. byte ∷ l) is

pub no_line : (bytes : List ℕ) → HasNoFeed bytes → first_line bytes ≡ bytes
no_line [] none = refl
no_line (byte ∷ bytes) none = no_line_at byte bytes (is_line_feed byte) (All-head is_plain byte bytes none) (no_line bytes (All-tail is_plain byte bytes none))

line_at : (byte : ℕ) (prefix rest : List ℕ) (feed : Bool) → feed ≡ false → first_line (prefix ++ (10 ∷ rest)) ≡ prefix ++ (10 ∷ [])
    → (if feed then byte ∷ [] else byte ∷ first_line (prefix ++ (10 ∷ rest))) ≡ byte ∷ (prefix ++ (10 ∷ []))
line_at byte prefix rest true plain is = absurd (true≢false plain)
line_at byte prefix rest false plain is = ap (λ l. byte ∷ l) is

line_of : (prefix rest : List ℕ) → HasNoFeed prefix → first_line (prefix ++ (10 ∷ rest)) ≡ prefix ++ (10 ∷ [])
line_of [] rest none = refl
line_of (byte ∷ prefix) rest none = line_at byte prefix rest (is_line_feed byte) (All-head is_plain byte prefix none) (line_of prefix rest (All-tail is_plain byte prefix none))

pub line_found : (bytes : List ℕ) (end : ℕ) → EndsAt bytes end → take (end + 1) bytes ≡ first_line bytes
line_found bytes end at =
    let prefix = take end bytes in
    let rest = drop (end + 1) bytes in
    let long : length (prefix ++ (10 ∷ [])) ≡ end + 1 = omega (arith, length-append prefix (10 ∷ []), length-take-le end bytes (omega (arith, at.within))) in
    let split : bytes ≡ (prefix ++ (10 ∷ [])) ++ rest = at.split ∙ sym (append_assoc prefix (10 ∷ []) rest) in
    ap (take (end + 1)) split ∙ take_at (prefix ++ (10 ∷ [])) rest (end + 1) long ∙ sym (ap first_line at.split ∙ line_of prefix rest at.no_feed)

split_at : (byte : ℕ) (bytes : List ℕ) (feed : Bool) → bytes ≡ first_line bytes ++ drop (length (first_line bytes)) bytes
    → (let line : List ℕ = if feed then byte ∷ [] else byte ∷ first_line bytes in byte ∷ bytes ≡ line ++ drop (length line) (byte ∷ bytes))
split_at byte bytes true is = refl
split_at byte bytes false is = ap (λ l. byte ∷ l) is

-- bytes are their first line and the rest
first_split : (bytes : List ℕ) → bytes ≡ first_line bytes ++ drop (length (first_line bytes)) bytes
first_split [] = refl
first_split (byte ∷ bytes) = split_at byte bytes (is_line_feed byte) (first_split bytes)

-- ---- n2k_next

pub prints_next : (d : Decoder) (left : Waiting) (text : List ℕ) → text ≡ first_line d.output.held → left.held ≡ drop (length text) d.output.held → PrintsNext text d (record d { output = left })
prints_next d left text is gone = λ t job fed ended printed reported s.
    let b = s.taken in
    let rest = drop (length text) d.output.held in
    let whole : d.output.held ≡ text ++ rest = subst (λ (x : List ℕ). d.output.held ≡ x ++ drop (length x) d.output.held) (sym is) (first_split d.output.held) in (
      (printed ++ d.output.held, b.output, record { rest = rest; is = ap (λ h. printed ++ h) whole ∙ sym (append_assoc printed text rest); one = is ∙ ap first_line whole }),
      record {
        ended = s.ended;
        fed_is = s.fed_is;
        taken = record {
          table = b.table;
          leads_to = b.leads_to;
          output = subst (IsOutput t job (taken_of ended fed)) (ap (λ h. printed ++ h) (whole ∙ ap (λ r. text ++ r) (sym gone)) ∙ sym (append_assoc printed text left.held)) b.output;
          reports = b.reports;
        };
      },
    )
