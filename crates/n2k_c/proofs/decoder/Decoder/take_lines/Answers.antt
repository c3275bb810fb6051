use Rattle.std.proofs.Common.{refl, sym, subst}
use Rattle.n2k_c.specs.Answers.{ClosesDecoder}
use Rattle.n2k_c.proofs.Feeding.{same_taken, spends_more, stands_more}
use Rattle.n2k_c.proofs.decoder.Decoder.take_lines.Goals as goal

pub returns-in-Err : goal.returns-in-Err
returns-in-Err c =
    subst (ClosesDecoder c.args.bytes.now c.args.self.now) (sym c.from.ensures)
    (spends_more c.args.self.now (record c.args.self.now { cut = c.extend_from_slice.new.self }) c.run_cut.new.self c.args.bytes.now c.split_at.result.0.now c.split_at.result.1.now c.args.last c.in-Err.fault
    c.split_at.ensures.front c.split_at.ensures.back c.requires.after c.requires.here c.in_ok-extend_from_slice.ensures.items
    (λ t job ls printed reported b. same_taken t job ls printed reported _ _ refl refl refl refl b)
    (λ t job ls printed reported whole b. c.in-Err.ensures.runs t job ls printed reported whole b))

pub returns : goal.returns
returns c = λ t job fed printed reported s.
    stands_more t job fed printed reported c.args.self.now (record c.args.self.now { cut = c.extend_from_slice.new.self }) c.args.bytes.now c.split_at.result.0.now c.split_at.result.1.now c.args.last
    c.split_at.ensures.front c.split_at.ensures.back c.requires.after c.requires.here c.in_ok-extend_from_slice.ensures.items s
    c.run_cut.new.self (record c.run_cut.new.self { cut = c.extend_from_slice-2.new.self }) c.in-Ok.ensures.cut c.in_ok-extend_from_slice-2.ensures.items refl c.in-Ok.ensures.log refl
    (λ ls b. same_taken t job ls printed reported _ _ refl refl refl refl b)
    (λ ls whole b. c.in-Ok.ensures.runs t job ls printed reported whole b)
    (λ ls b. same_taken t job ls printed reported _ _ refl refl refl refl b)
