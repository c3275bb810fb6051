use Rattle.std.proofs.Common.{[], refl, sym, subst}
use Rattle.n2k_c.specs.Answers.{ClosesDecoder}
use Rattle.n2k_c.proofs.Feeding.{ends_log, same_taken, spends_end}
use Rattle.n2k_c.proofs.decoder.Decoder.end.Goals as goal

pub returns-in-Err : goal.returns-in-Err
returns-in-Err c =
    subst (ClosesDecoder [] c.args.self.now) (sym c.from.ensures)
    (spends_end c.args.self.now c.run_cut.new.self c.in-Err.fault (λ t job ls printed reported whole b. c.in-Err.ensures.runs t job ls printed reported whole b))

pub returns-in-Ok : goal.returns-in-Ok
returns-in-Ok c = ends_log c.args.self.now c.run_cut.new.self _ c.in-Ok.ensures.cut refl refl
    (λ t job ls printed reported whole b. c.in-Ok.ensures.runs t job ls printed reported whole b)
    (λ t job ls printed reported b. same_taken t job ls printed reported _ _ refl refl refl refl b)
