use Rattle.std.proofs.Common.{◌≡◌, false, Some, inl, inr, refl, sym, ap, subst, ◌∙◌}
use Rattle.n2k_c.specs.declared.decoder.Decoder.{Decoder}
use Rattle.n2k_c.specs.Answers.{Waits}
use Rattle.n2k_c.specs.Stands.{is_encoder}
use Rattle.n2k_c.proofs.calls.take_frame.Goals as goal

pub returns-then-is_encoder : goal.returns-then-is_encoder
returns-then-is_encoder c = inr (inl (refl, record { from = c.deref.result.now; to = c.in-Ok.decoder.value; was = c.in-Ok.ensures.0 ∙ ap Some (sym c.deref.ensures); is = c.keep.ensures; how = (sym c.deref.ensures, sym c.is_encoder.ensures ∙ c.if-is_encoder.true) }))

pub returns-then-is_cut : goal.returns-then-is_cut
returns-then-is_cut c = inr (inr (inl (refl, record { from = c.deref-2.result.now; to = c.in-Ok.decoder.value; was = c.in-Ok.ensures.0 ∙ ap Some (sym c.deref-2.ensures); is = c.keep-then-is_cut.ensures; how = (let waits = c.is_cut.ensures.yes c.if-is_cut.true in (sym c.deref-2.ensures, waits.0, waits.1, waits.2)) })))

pub returns-in-Ok-take_frame : goal.returns-in-Ok-take_frame
returns-in-Ok-take_frame c = record {
  from = c.deref_mut.result.now;
  to = c.take_frame.new.self;
  was = c.in-Ok.ensures.0 ∙ ap Some (sym c.deref_mut.ensures.value);
  is = c.keep-in-Ok-take_frame.ensures;
  how = (
    subst (λ (d : Decoder). is_encoder d.work ≡ false) (c.deref.ensures ∙ sym c.deref_mut.ensures.value) (sym c.is_encoder.ensures ∙ c.if-is_encoder.false),
    subst (Waits 0) (c.deref-2.ensures ∙ sym c.deref_mut.ensures.value) (c.is_cut.ensures.no c.if-is_cut.false),
    c.in-Ok-take_frame.ensures,
  );
}

pub returns-in-Err-take_frame : goal.returns-in-Err-take_frame
returns-in-Err-take_frame c = inr (inr (inr (inr (c.deref_mut.result.now, c.in-Ok.ensures.0 ∙ ap Some (sym c.deref_mut.ensures.value), c.in-Ok.ensures.1, c.in-Err-take_frame.ensures))))
