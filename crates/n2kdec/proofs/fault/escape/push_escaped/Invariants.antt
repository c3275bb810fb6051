-- The text of the bytes so far is written, and that of the others is left.
use Rattle.std.proofs.Common.{◌≡◌, ◌++◌, drop}
use Rattle.n2kdec.specs.Fault.Escape.{escaped, escaped_after}
use Rattle.n2kdec.proofs.fault.escape.push_escaped.Given as goal

abbrev pub invariant-loop-index : goal.invariant-loop-index
invariant-loop-index l =
    l.out.items ++ escaped_after l.keeps_lines l.last (drop l.index l.text) ≡ l.fn.out.items ++ escaped l.keeps_lines l.text
