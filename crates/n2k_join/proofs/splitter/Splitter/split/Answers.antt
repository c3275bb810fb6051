use Rattle.std.proofs.Common.{arith, ◌≡◌, ◌+◌, ◌/◌, List, ℕ, length, Some, ap, ◌∙◌}
use Rattle.n2k_table.specs.Table.{kind}
use Rattle.n2k_table.specs.declared.definition.Kind.TheVariants.{Fast}
use Rattle.n2k_join.specs.Pieces.{stream_of}
use Rattle.n2k_join.specs.Splitter.{sequences}
use Rattle.n2k_join.proofs.InPlaceFrames.{are_fast, are_single, pieces_single}
use Rattle.n2k_join.proofs.Numbered.{raised_fast, raised_single}
use Rattle.n2k_join.proofs.splitter.Splitter.split.Goals as goal

pub invariant_of-result : goal.invariant_of-result
invariant_of-result c = are_single c.args.message.now

pub invariant_of-result-in-Fast : goal.invariant_of-result-in-Fast
invariant_of-result-in-Fast c = are_fast c.args.message.now _ _ c.in_ok-sequence-in-Fast.ensures.small c.data.ensures.valid.payload_ok (ap (λ (bytes : List ℕ). length bytes / 7 + 1) c.data.ensures.value)

pub returns-in-Single-clause-frames : goal.returns-in-Single-clause-frames
returns-in-Single-clause-frames c = grind (arith, pieces_single)

pub returns-in-Single-clause-raised : goal.returns-in-Single-clause-raised
returns-in-Single-clause-raised c = grind (arith, raised_single)

pub returns-in_ok-sequence-in-Fast-clause-raised : goal.returns-in_ok-sequence-in-Fast-clause-raised
returns-in_ok-sequence-in-Fast-clause-raised c =
    let fast : kind c.args.table.now c.args.message.now.id.pgn ≡ Some Fast = c.in_ok-kind_of.ensures.kind ∙ ap Some c.in-Fast.is in
    let of : c.of.result ≡ stream_of c.args.message.now.id = c.of.ensures ∙ ap stream_of c.id.ensures.value in
    raised_fast (kind c.args.table.now) (sequences c.args.self.now) _ (stream_of c.args.message.now.id) fast (rw of at c.in_ok-sequence-in-Fast.ensures.raised)
