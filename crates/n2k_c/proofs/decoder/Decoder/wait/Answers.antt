use Rattle.std.proofs.Common.{refl}
use Rattle.n2k_c.proofs.Feeding.{same_taken, stands_longer}
use Rattle.n2k_c.proofs.decoder.Decoder.wait.Goals as goal

pub returns : goal.returns
returns c = λ t job fed printed reported s.
    stands_longer t job fed printed reported c.args.self.now (record c.args.self.now { cut = c.extend_from_slice.new.self }) c.args.bytes.now c.requires c.in_ok-extend_from_slice.ensures.items refl
    (λ ls b. same_taken t job ls printed reported _ _ refl refl refl refl b) s
