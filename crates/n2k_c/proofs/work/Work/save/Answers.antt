use Rattle.std.proofs.Common.{subst, sym}
use Rattle.n2k_c.specs.Inner.{IsSavedOf}
use Rattle.n2k_c.proofs.Working.{saved_decoded}
use Rattle.n2k_c.proofs.work.Work.save.Goals as goal

pub returns-in_ok-text-in-Decodes : goal.returns-in_ok-text-in-Decodes
returns-in_ok-text-in-Decodes c =
    let text = c.in_ok-text-in-Decodes.text.items in
    subst (IsSavedOf text) (sym c.in-Decodes.is) (saved_decoded text c.in-Decodes.decoding c.in_ok-text-in-Decodes.ensures.text)
