use Rattle.std.proofs.Common.{◌≡◌, ◌-◌, ◌+◌, ◌≤◌, [], List, ℕ, length, Option, Some, None, refl, sym, ap, ◌∙◌, arith, add-zero, append-nil}
use Rattle.std.specs.Io.KnownBytes.{Consumes, Keeps}
use Rattle.std.specs.List.{slice_range}
use Rattle.std.proofs.lemmas.Result.{err_from_is_err_and}
use borrow.Rule.Slice.PartMut.{put_mid}
use Rattle.n2k_run.specs.Blocks.{BlocksView}
use Rattle.n2k_run.proofs.Ranges.{length-range, range_grown}
use Rattle.n2k_run.proofs.blocks.Blocks.read_some.Goals as goal

-- a failed read took nothing
none_taken : (old new : Option (List ℕ)) → Keeps old new → Consumes old new []
none_taken None new keeps = tt
none_taken (Some bytes) None keeps = absurd keeps
none_taken (Some bytes) (Some rest) keeps = sym keeps

-- if no byte came, the kept bytes are unchanged
same_kept : (b ys : List ℕ) (s e k n : ℕ) → s ≤ e → e + k ≡ length b → length ys ≡ k → n ≡ 0 → slice_range (put_mid e k b ys) s (e + n) ≡ slice_range b s e
same_kept b ys s e k n in_order whole size none = rw none (range_grown b ys s e k 0 in_order whole size (omega arith) ∙ append-nil (slice_range b s e))

pub returns-in_err-count-clause-gains : goal.returns-in_err-count-clause-gains
returns-in_err-count-clause-gains g c =
    let i = c.self.inside in
    let kept = ap (λ (h : BlocksView). h.kept) c.self.view_is in
    let size : length c.read.new.buffer ≡ 4096 - i.end = c.read.auto.buffer ∙ length-range i.block i.end 4096 (omega arith) (omega arith) in
    let same = same_kept i.block c.read.new.buffer i.start i.end (4096 - i.end) 0 c.self.invariant.kept_ends (omega arith) size refl in
    record { gained = []; appended = rw add-zero at same ∙ kept ∙ sym (append-nil c.args.self.now.kept); given = none_taken _ _ c.in_err-count.ensures.bytes }

pub returns-in_err-count-clause-failed : goal.returns-in_err-count-clause-failed
returns-in_err-count-clause-failed g c =
    let i = c.self.inside in
    let kept = ap (λ (h : BlocksView). h.kept) c.self.view_is in
    let size : length c.read.new.buffer ≡ 4096 - i.end = c.read.auto.buffer ∙ length-range i.block i.end 4096 (omega arith) (omega arith) in
    let same = same_kept i.block c.read.new.buffer i.start i.end (4096 - i.end) 0 c.self.invariant.kept_ends (omega arith) size refl in
    let p = err_from_is_err_and c.from_residual.result c.from_residual.ensures.1 in
    rw p.1 (rw add-zero at same ∙ kept)

pub returns-clause-gains : goal.returns-clause-gains
returns-clause-gains g c = grind (arith, length-range, range_grown)

pub returns-clause-end : goal.returns-clause-end
returns-clause-end g c = grind (arith, length-range, same_kept)
