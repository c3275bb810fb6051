-- The prefix of a log that was taken, and one more line of it.
use Rattle.std.proofs.Common.{◌≡◌, inl, inr, ℕ, ◌-◌, ◌<◌, Bool, true, false, List, [], ◌∷◌, ◌++◌, length, map, refl, sym, ap, ◌∙◌, subst, append_assoc, arith, length-append, Option, Some, None, IfSome}
use Rattle.std.specs.Io.{IsEmptyOrEndsWith}
use Rattle.std.specs.Io.KnownBytes.{Consumes, IsAtEnd}
use Rattle.std.proofs.KnownBytes.{Consumes-trans}
use Rattle.std.proofs.lemmas.List.{append-nil, get_or_at, get_or-append_right, get_or_append_left, map-append, take_at}
use Rattle.n2k_wire.specs.declared.entry.Entry.{Entry}
use Rattle.n2k_wire.specs.declared.entry.Packing.{Packing}
use Rattle.n2k_wire.specs.Entry.{entry}
use Rattle.n2k_run.specs.Blocks.{BlocksView, HasNoFeed, unanswered}
use Rattle.n2k_run.specs.Entries.{entries}
use Rattle.n2k_run.specs.Lines.{line_feed, is_line_feed, lines, whole_lines, without_return}
use Rattle.n2k_run.specs.Inner.Engine.{NextEntry}
use Rattle.n2k_run.proofs.Answering.{lines_chunk, lines_rest}
use Rattle.n2k_run.proofs.Splits.{lines-append, whole_lines-is}

-- bytes that end in a line feed
pub ends_feed : (bytes : List ℕ) → IsEmptyOrEndsWith (bytes ++ (10 ∷ [])) line_feed
ends_feed bytes = grind (arith, length-append, get_or_at)

-- the whole lines, followed by bytes without a line feed
pub whole_prefix : (prefix after : List ℕ) → IsEmptyOrEndsWith prefix line_feed → HasNoFeed after → whole_lines (prefix ++ after) ≡ prefix
whole_prefix prefix after ends none = grind (arith, take_at prefix after (length prefix) refl, whole_lines-is (prefix ++ after) (length prefix) (omega (arith, (length-append prefix after))) (λ k from below. subst (λ b. is_line_feed b ≡ false) (sym (get_or-append_right prefix after (length prefix) k 0 refl from)) (none (k - length prefix) 0 (omega (arith, (length-append prefix after), from, below)))) (λ some. get_or_append_left prefix after 0 (length prefix - 1) (omega (arith, some)) ∙ ends some), get_or-append_right, get_or_append_left)

pub entries-append : (packing : Packing) (prefix rest : List ℕ) → IsEmptyOrEndsWith prefix line_feed → entries packing (prefix ++ rest) ≡ entries packing prefix ++ entries packing rest
entries-append packing prefix rest ends = grind (arith, lines-append, map-append)

-- the entries that were taken are a prefix of the log's
abbrev pub Leads : Packing → Option (List ℕ) → List Entry → Type 0
Leads packing left₀ es = IfSome left₀ (λ log. (more : List Entry) × (entries packing log ≡ es ++ more))

leads_known : (packing : Packing) (log left prefix held : List ℕ) (ended : Bool) → log ≡ (prefix ++ held) ++ left → (ended ≡ false → IsEmptyOrEndsWith prefix line_feed) → (ended ≡ true → (held ≡ []) × (left ≡ [])) → (more : List Entry) × (entries packing log ≡ entries packing prefix ++ more)
leads_known packing log left prefix held false given whole end = grind (arith, append_assoc prefix held left, entries-append packing prefix (held ++ left) (whole refl))
leads_known packing log left prefix held true given whole end = grind (arith, append-nil)

pub leads : (packing : Packing) (left₀ left : Option (List ℕ)) (prefix held : List ℕ) (ended : Bool) → Consumes left₀ left (prefix ++ held) → (ended ≡ false → IsEmptyOrEndsWith prefix line_feed) → (ended ≡ true → (held ≡ []) × IsAtEnd left) → Leads packing left₀ (entries packing prefix)
leads packing None left prefix held ended given whole end = tt
leads packing (Some log) None prefix held ended given whole end = absurd given
leads packing (Some log) (Some left) prefix held ended given whole end = leads_known packing log left prefix held ended given whole end

-- one line more
pub record Longer (packing : Packing) (left₀ left : Option (List ℕ)) (held : BlocksView) (prefix : List ℕ) (x : Entry) : Type 0 where
  pub longer : List ℕ
  pub came : Consumes left₀ left (longer ++ unanswered held)
  pub whole : held.has_ended ≡ false → IsEmptyOrEndsWith longer line_feed
  pub end : held.has_ended ≡ true → (unanswered held ≡ []) × IsAtEnd left
  pub entries_are : entries packing longer ≡ entries packing prefix ++ (x ∷ [])

pub takes_more : (packing : Packing) (old new : BlocksView) (left₀ mid left : Option (List ℕ)) (prefix : List ℕ) (x : Entry) → Consumes left₀ mid (prefix ++ unanswered old) → IsEmptyOrEndsWith prefix line_feed → NextEntry packing old new mid left x → Longer packing left₀ left new prefix x
takes_more packing old new left₀ mid left prefix x so_far ends next =
    let bytes : List ℕ = unanswered old ++ next.came in
    let chunk : List ℕ = next.first.chunk in
    let rest : List ℕ = unanswered new in
    let given : Consumes left₀ left (prefix ++ bytes) = subst (λ b. Consumes left₀ left b) (append_assoc prefix (unanswered old) next.came) (Consumes-trans left₀ mid left (prefix ++ unanswered old) next.came so_far next.given) in
    let one : (more : List ℕ) → lines more ≡ without_return chunk ∷ [] → entries packing (prefix ++ more) ≡ entries packing prefix ++ (x ∷ []) = λ more is.
    entries-append packing prefix more ends ∙ ap (λ ls. entries packing prefix ++ map (λ line. entry line packing) ls) is
    ∙ ap (λ l. entries packing prefix ++ (entry l packing ∷ [])) (sym next.first.line_is) ∙ ap (λ e. entries packing prefix ++ (e ∷ [])) (sym next.entry_is) in
    let feed : (new.has_ended ≡ false) × (bytes ≡ chunk ++ (10 ∷ rest)) → Longer packing left₀ left new prefix x = λ e.
    let line : List ℕ = chunk ++ (10 ∷ []) in
    let parts : prefix ++ bytes ≡ (prefix ++ line) ++ rest = ap (λ b. prefix ++ b) (e.1 ∙ sym (append_assoc chunk (10 ∷ []) rest)) ∙ sym (append_assoc prefix line rest) in
    record {
      longer = prefix ++ line;
      came = subst (λ b. Consumes left₀ left b) parts given;
      whole = λ _. subst (λ b. IsEmptyOrEndsWith b line_feed) (append_assoc prefix chunk (10 ∷ [])) (ends_feed (prefix ++ chunk));
      end = λ ended. cc;
      entries_are = one line (lines_chunk chunk [] next.first.no_feed);
    } in
    let end : IsAtEnd left × (new.has_ended ≡ true) × (bytes ≡ chunk) × (0 < length chunk) × (rest ≡ []) → Longer packing left₀ left new prefix x = λ e.
    let parts : prefix ++ bytes ≡ (prefix ++ chunk) ++ rest = ap (λ b. prefix ++ b) e.2 ∙ sym (append-nil (prefix ++ chunk)) ∙ ap (λ r. (prefix ++ chunk) ++ r) (sym e.4) in
    record {
      longer = prefix ++ chunk;
      came = subst (λ b. Consumes left₀ left b) parts given;
      whole = λ on. cc;
      end = λ _. (e.4, e.0);
      entries_are = one chunk (lines_rest chunk next.first.no_feed e.3);
    } in
    elim next.first.ends [ inl e ↦ feed e | inr e ↦ end e ]
