use Rattle.std.proofs.Common.{◌≡◌, ◌≤◌, ◌∙◌, Err, ap, sym, refl, arith, append-nil, inl, inr, length, false}
use Rattle.n2k_wire.specs.Entry.{is_skipped}
use Rattle.n2k_encode.specs.Encoded.{longest_request}
use Rattle.n2k_encode.specs.Refusal.{cause}
use Rattle.n2k_encode_run.specs.Outcomes.{Gives, skipped, encoded, refused}
use Rattle.n2k_encode_run.proofs.Feeding.{long_cause, one_line}
use Rattle.n2k_encode_run.proofs.encoder.Encoder.take_line.Goals as goal
use Rattle.n2k_encode_run.proofs.encoder.Encoder.take_line.Goals.{else-line-le-LONGEST_REQUEST-via-then-line-le-LONGEST_REQUEST+else-is_skipped, else-line-le-LONGEST_REQUEST-via-else-line-le-LONGEST_REQUEST}

pub returns-then-is_skipped-clause-taken : goal.returns-then-is_skipped-clause-taken
returns-then-is_skipped-clause-taken c =
    let l = c.args.ledger.now in
    one_line c.args.self.now.table.now c.args.self.now.nearest c.args.line.now skipped l _ (omega (arith, c.if-line-le-LONGEST_REQUEST.true), sym c.is_skipped.ensures ∙ c.if-is_skipped.true) refl (sym (append-nil l.text.items)) (sym (append-nil l.report.items))

pub returns-in_ok-plain_text-in-Ok-clause-taken : goal.returns-in_ok-plain_text-in-Ok-clause-taken
returns-in_ok-plain_text-in-Ok-clause-taken c =
    let l = c.args.ledger.now in
    let line = c.args.line.now in
    let fits : (length line ≤ longest_request) × (is_skipped line ≡ false) = elim c.else-line-le-LONGEST_REQUEST.branch [
      | else-line-le-LONGEST_REQUEST-via-then-line-le-LONGEST_REQUEST+else-is_skipped w ↦ (omega (arith, w.if-line-le-LONGEST_REQUEST.true), sym w.is_skipped.ensures ∙ w.if-is_skipped.false)
      | else-line-le-LONGEST_REQUEST-via-else-line-le-LONGEST_REQUEST w ↦ let wrong = c.in-Ok.ensures.long (omega (arith, w.if-line-le-LONGEST_REQUEST.false)) in cc
    ] in
    one_line c.args.self.now.table.now c.args.self.now.nearest line (encoded c.in-Ok.packet) l _ (fits.0, fits.1, c.in-Ok.ensures.reads_back) refl c.in_ok-plain_text-in-Ok.ensures.ok (sym (append-nil l.report.items))

pub returns-in_ok-refused_text-in-Err-Refused-clause-taken : goal.returns-in_ok-refused_text-in-Err-Refused-clause-taken
returns-in_ok-refused_text-in-Err-Refused-clause-taken c =
    let l = c.args.ledger.now in
    let line = c.args.line.now in
    let gives : Gives c.args.self.now.table.now c.args.self.now.nearest line (refused (cause c.in-Err-Refused.refusal)) = elim c.else-line-le-LONGEST_REQUEST.branch [
      | else-line-le-LONGEST_REQUEST-via-then-line-le-LONGEST_REQUEST+else-is_skipped w ↦
          let few : length line ≤ longest_request = omega (arith, w.if-line-le-LONGEST_REQUEST.true) in
          inr (few, sym w.is_skipped.ensures ∙ w.if-is_skipped.false, rw c.in-Err-Refused.field-0-is at (c.in-Err-Refused.ensures.refused few))
      | else-line-le-LONGEST_REQUEST-via-else-line-le-LONGEST_REQUEST w ↦
          inl (omega (arith, w.if-line-le-LONGEST_REQUEST.false), long_cause c.in-Err-Refused.refusal _ (ap (λ e. Err e) c.in-Err-Refused.field-0-is) (c.in-Err-Refused.ensures.long (omega (arith, w.if-line-le-LONGEST_REQUEST.false))))
    ] in
    one_line c.args.self.now.table.now c.args.self.now.nearest line (refused (cause c.in-Err-Refused.refusal)) l _ gives refl (sym (append-nil l.text.items)) c.in_ok-refused_text-in-Err-Refused.ensures
