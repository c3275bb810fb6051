use Rattle.std.proofs.Common.{◌≡◌, [], ◌∷◌, length, ap, sym, ◌∙◌, arith, ◌==◌}
use Rattle.std.proofs.lemmas.List.Splits.{length-slice_split}
use Rattle.n2k_wire.specs.Plain.{columns}
use Rattle.n2k_wire.specs.Inner.Plain.{columns_left}
use Rattle.n2k_wire.proofs.PlainLemmas.{reads_column, ends_column, pairs-end, bytes_of-pairs, bytes_of-other, bytes_of-bad}
use Rattle.n2k_wire.proofs.plain.read_bytes.Goals as goal

-- there are too few columns
pub returns-in_err-left-clause-value : goal.returns-in_err-left-clause-value
returns-in_err-left-clause-value c =
    let none : columns_left c.loop.left ≡ [] = ap columns_left c.in_err-left.was in
    let few : length (columns_left c.args.more) ≡ c.loop.counter = omega (arith, rw none at c.loop.invariant.columns) in
    rw c.from_residual.ensures (bytes_of-other c.args.len (columns_left c.args.more) (λ e. omega arith))

-- a column is not a byte
pub returns-in_err-byte-clause-value : goal.returns-in_err-byte-clause-value
returns-in_err-byte-clause-value c =
    let first : columns_left c.loop.left ≡ c.first_column.result.0.now ∷ columns_left c.first_column.result.1 = ap columns_left c.in_ok-left.was ∙ c.first_column.ensures in
    let read = rw first at c.loop.invariant.read in
    rw c.from_residual-in_err-byte.ensures (bytes_of-bad c.args.len (columns_left c.args.more) (sym read ∙ ends_column c.loop.bytes.items _ _ c.in_err-byte.ensures))

pub loop-preserved : goal.loop-preserved
loop-preserved c =
    let first : columns_left c.loop.left ≡ c.first_column.result.0.now ∷ columns_left c.first_column.result.1 = ap columns_left c.in_ok-left.was ∙ c.first_column.ensures in
    let read = rw first at c.loop.invariant.read in
    let count = rw first at c.loop.invariant.columns in
    record {
      taken = omega (arith, c.push.ensures.len);
      columns = omega arith;
      read = rw c.push.ensures.items (sym (reads_column c.loop.bytes.items (c.in_ok-byte.byte ∷ []) _ _ c.in_ok-byte.ensures) ∙ read);
    }

-- there are too many columns
pub returns-in-Some-clause-value : goal.returns-in-Some-clause-value
returns-in-Some-clause-value c =
    let some : columns_left c.loop.left ≡ columns c.in-Some.field-0.now = ap columns_left c.in-Some.is in
    let count = rw some at c.loop.invariant.columns in
    bytes_of-other c.args.len (columns_left c.args.more) (λ e. omega (arith, length-slice_split (λ b. b == 44) c.in-Some.field-0.now))

pub returns-in-None-clause-value : goal.returns-in-None-clause-value
returns-in-None-clause-value c =
    let none : columns_left c.loop.left ≡ [] = ap columns_left c.in-None.is in
    let all : length (columns_left c.args.more) ≡ c.args.len = omega (arith, rw none at c.loop.invariant.columns) in
    bytes_of-pairs c.args.len (columns_left c.args.more) all ∙ (sym (rw none at c.loop.invariant.read) ∙ pairs-end c.loop.bytes.items)
