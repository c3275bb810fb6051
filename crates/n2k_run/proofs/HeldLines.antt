-- The lines that end in the block, taken one after the other.
use Rattle.std.proofs.Common.{◌≡◌, inl, inr, ℕ, ◌+◌, ◌-◌, ◌<◌, ◌≤◌, Bool, true, false, List, [], ◌∷◌, ◌++◌, length, length-drop, take, drop, refl, sym, ap, ◌∙◌, subst, arith, Option, Ok, Err, cond, if◌then◌else◌}
use Rattle.std.proofs.KnownBytes.{Consumes-nil}
use Rattle.std.proofs.lemmas.List.{append-nil, drop-drop, take_all}
use Rattle.n2k_wire.specs.declared.entry.Entry.{Entry}
use Rattle.n2k_wire.specs.declared.entry.Packing.{Packing}
use Rattle.n2k_wire.specs.Entry.{entry}
use Rattle.n2k_join.specs.Counts.{most_lines}
use Rattle.n2k_run.specs.declared.fault.RunFault.{RunFault}
use Rattle.n2k_run.specs.declared.fault.RunFault.TheVariants.{Memory, TooManyLines}
use Rattle.n2k_run.specs.Blocks.{BlocksView, unanswered}
use Rattle.n2k_run.specs.Fold.{Fold}
use Rattle.n2k_run.specs.Lines.{without_return}
use Rattle.n2k_run.specs.Runs.{Devices}
use Rattle.n2k_run.specs.Inner.Block.{EndsAt, held_lines, skipped}
use Rattle.n2k_run.specs.Inner.Engine.{BetweenLines, MovesOn, NextEntry, Proceeds, ReadsNext, StopsAtLine, TakesEntry, TakesNext, read_on}
use Rattle.n2k_run.proofs.Calls.{none_read, within_one}
use Rattle.n2k_run.proofs.Feeds.{unanswered_plain}
use Rattle.n2k_run.proofs.Running.{takes}
use Rattle.n2k_run.proofs.Taking.{takes_entry}

-- a line that ends in the block, after so many bytes
pub record HasLineAt (held : BlocksView) (at size : ℕ) (line : List ℕ) : Type 0 where
  pub plain : held.is_passing ≡ false
  pub ends : EndsAt (drop at held.kept) size
  pub line_is : line ≡ without_return (take size (drop at held.kept))

plain_held : (held : BlocksView) → 0 < length (held_lines held) → held.is_passing ≡ false
plain_held held some =
    let P : Bool → Type 0 = λ b. 0 < length (if b then [] else held.kept) → b ≡ false in
    let split : (b : Bool) → P b = λ b. elim b as P [ true ↦ λ e. absurd (omega (arith, e)) | false ↦ λ e. refl ] in
    split held.is_passing some

pub line_ends_within : (bytes : List ℕ) (at size : ℕ) → EndsAt (take (length bytes - at) (drop at bytes)) size → at + (size + 1) ≤ length bytes
line_ends_within bytes at size ends = omega (arith, ends.within, length-drop at bytes, ap length (take_all (length bytes - at) (drop at bytes) (omega (arith, length-drop at bytes))))

pub has_line_at : (held : BlocksView) (bytes line : List ℕ) (at size : ℕ) → bytes ≡ held_lines held → EndsAt (take (length bytes - at) (drop at bytes)) size → line ≡ without_return (take (at + size - at) (drop at bytes)) → HasLineAt held at size line
has_line_at held bytes line at size is ends line_is =
    let all : take (length bytes - at) (drop at bytes) ≡ drop at bytes = take_all (length bytes - at) (drop at bytes) (omega (arith, length-drop at bytes)) in
    let here : EndsAt (drop at bytes) size = subst (λ b. EndsAt b size) all ends in
    let text : line ≡ without_return (take size (drop at bytes)) = line_is ∙ ap (λ k. without_return (take k (drop at bytes))) (let same : at + size - at ≡ size = omega arith in same) in
    let some : 0 < length bytes = omega (arith, here.within, length-drop at bytes) in
    let plain = plain_held held (subst (λ b. 0 < length b) is some) in
    let whole : held_lines held ≡ held.kept = rw plain refl in
    let kept : bytes ≡ held.kept = is ∙ whole in
    record {
      plain = plain;
      ends = subst (λ b. EndsAt (drop at b) size) kept here;
      line_is = subst (λ b. line ≡ without_return (take size (drop at b))) kept text;
    }

next_held : (packing : Packing) (held : BlocksView) (at size : ℕ) (line : List ℕ) (left : Option (List ℕ)) → held.has_ended ≡ false → HasLineAt held at size line
    → NextEntry packing (skipped at held) (skipped (at + (size + 1)) held) left left (entry line packing)
next_held packing held at size line left on has =
    let rest : drop (size + 1) (drop at held.kept) ≡ unanswered (skipped (at + (size + 1)) held) = drop-drop (size + 1) at held.kept ∙ sym (unanswered_plain (skipped (at + (size + 1)) held) has.plain) in
    record {
      came = [];
      given = Consumes-nil left;
      line = line;
      first = record {
        chunk = take size (drop at held.kept);
        line_is = has.line_is;
        no_feed = has.ends.no_feed;
        ends = inl (on, append-nil (unanswered (skipped at held)) ∙ unanswered_plain (skipped at held) has.plain ∙ has.ends.split ∙ ap (λ r. take size (drop at held.kept) ++ (10 ∷ r)) rest);
      };
      entry_is = refl;
    }

module _ {S : Type 0} (m : Fold S) (packing : Packing) (s₀ : S) (before now : Devices) (left : Option (List ℕ)) (calls failed : ℕ) where
  -- the engine, with so many bytes of the block taken
  abbrev pub StandsAt : S → ℕ → BlocksView → List ℕ → List ℕ → Type 0
  StandsAt s at held text report = BetweenLines m packing s₀ s (skipped at held) text report before (read_on now left calls failed)

  -- a block whose bytes aren't taken has not ended
  open_yet : (s : S) (held : BlocksView) (at size : ℕ) (line text report : List ℕ) → StandsAt s at held text report → HasLineAt held at size line → held.has_ended ≡ false
  open_yet s held at size line text report stands has =
      let P : Bool → Type 0 = λ b. (b ≡ true → unanswered (skipped at held) ≡ []) → b ≡ false in
      let split : (b : Bool) → P b = λ b. elim b as P [
        | true ↦ λ end. absurd (omega (arith, has.ends.within, ap length (sym (unanswered_plain (skipped at held) has.plain) ∙ end refl)))
        | false ↦ λ end. refl
      ] in
      split held.has_ended (λ is. (stands.end is).0)

  pub takes_held : (s s' : S) (held : BlocksView) (at size : ℕ) (line text text' report report' : List ℕ) → StandsAt s at held text report → HasLineAt held at size line
      → MovesOn m s s' (entry line packing) text text' report report' → StandsAt s' (at + (size + 1)) held text' report'
  takes_held s s' held at size line text text' report report' stands has moves =
      let on = open_yet s held at size line text report stands has in
      takes m packing s₀ before s s' (skipped at held) (skipped (at + (size + 1)) held) text text' report report' (read_on now left calls failed) left calls failed stands on (inl (entry line packing, next_held packing held at size line left on has, moves)) refl (omega arith, inl refl) (rw on (none_read left calls))

  -- the source has no part in a handler's fault
  no_read : (s s' : S) (held : BlocksView) (text text' report report' : List ℕ) (x : Entry) (fault : RunFault) → TakesEntry {T = Unit {0}} m s s' x text text' report report' (Err fault) → ReadsNext {T = Unit {0}} held failed failed (Err fault)
  no_read s s' held text text' report report' x TooManyLines taken = refl
  no_read s s' held text text' report report' x Memory taken = refl
  no_read s s' held text text' report report' x _ taken = absurd taken

  pub stops_held : (s s' : S) (held : BlocksView) (at size : ℕ) (line text text' report report' : List ℕ) (fault : RunFault) → StandsAt s at held text report → HasLineAt held at size line
      → TakesEntry {T = Unit {0}} m s s' (entry line packing) text text' report report' (Err fault) → StopsAtLine {T = Unit {0}} m packing s₀ s' text' report' before now left calls failed (Err fault)
  stops_held s s' held at size line text text' report report' fault stands has taken =
      let on = open_yet s held at size line text report stands has in
      record {
        s = s;
        held = skipped at held;
        held' = skipped (at + (size + 1)) held;
        text = text;
        report = report;
        left = left;
        calls = calls;
        failed = failed;
        stands = stands;
        on = on;
        next = takes_entry m packing s s' (skipped at held) (skipped (at + (size + 1)) held) left left text text' report report' {T = Unit {0}} (entry line packing) (Err fault) (next_held packing held at size line left on has) taken;
        device = no_read s s' (skipped (at + (size + 1)) held) text text' report report' (entry line packing) fault taken;
        called = (omega arith, inl refl);
        reads = within_one 0 left left calls calls (omega arith) (none_read left calls);
      }

-- after the next line, and perhaps more of them
pub proceeds : {S : Type 0} (m : Fold S) (packing : Packing) (s s' s'' : S) (old new : BlocksView) (left₀ left : Option (List ℕ)) (text text' report report' : List ℕ) → TakesNext {T = Unit {0}} m packing s s' old new left₀ left text text' report report' (Ok tt) → m.lines s' ≤ m.lines s'' → Proceeds m s s'' new.has_ended
proceeds m packing s s' s'' old new left₀ left text text' report report' next more = elim next [
  | inl one ↦ inl (one.2.few, omega (arith, one.2.counted, more))
  | inr last ↦ inr (last.0.has_ended, subst (λ x. m.lines x ≤ m.lines s'') last.1.same_state more)
]

at_most_one : (ended : Bool) → cond ended 0 1 ≤ 1
at_most_one true = omega arith
at_most_one false = omega arith

-- the lines that may still be counted, and the end, grow fewer
pub nearer : {S : Type 0} (m : Fold S) (s s' : S) (ended ended' : Bool) → ended ≡ false → Proceeds m s s' ended' → (most_lines - m.lines s') + cond ended' 0 1 < (most_lines - m.lines s) + cond ended 0 1
nearer m s s' ended ended' on (inl more) = rw on (omega (arith, more.0, more.1, at_most_one ended'))
nearer m s s' ended ended' on (inr last) = rw (on, last.0) (omega (arith, last.1))
