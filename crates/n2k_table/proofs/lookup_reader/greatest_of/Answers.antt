use Rattle.std.proofs.Common.{◌<◌, arith}
use Rattle.n2k_table.proofs.Names.{none_from}
use Rattle.n2k_table.proofs.lookup_reader.greatest_of.Goals as goal
use Rattle.n2k_table.proofs.lookup_reader.greatest_of.Goals.{in-Some, in_default}

pub loop-at-preserved : goal.loop-at-preserved
loop-at-preserved c = λ value above none. elim c.match-get_index.branch [
  | in-Some w ↦
      (let more : c.loop-at.greatest < value = grind (arith, w.max-greatest.ensures, w.greatest-is, above) in
      let less : w.in-Some.value.now < value = grind (arith, w.max-greatest.ensures, w.greatest-is, above) in
      c.loop-at.invariant value more (none_from c.args.names.now.entries c.loop-at.at value (w.in-Some.value.now, w.in-Some.field-0-1.now) w.in-Some.ensures.entry less none))
  | in_default w ↦ absurd (grind (arith, w.in_default.is, c.get_index.ensures.found, c.len-at-end.ensures.len, c.loop-at-test.true))
]
