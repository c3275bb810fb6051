use Rattle.std.proofs.Common.{◌≡◌, drop}
use Rattle.json.specs.Value.{items_view}
use Rattle.n2k_encode.specs.Coded.{coded_sets}
use Rattle.n2k_encode.specs.Draft.{laid_sets, without_sets}
use Rattle.n2k_encode.proofs.draft.put_sets.Given as goal

-- with the sets that are left all are in the data
abbrev pub invariant-loop-set : goal.invariant-loop-set
invariant-loop-set l =
    laid_sets l.repeat l.own (record { payload = l.«data»; end = l.all.end; agree = l.all.agree })
    (coded_sets l.style l.repeat.fields (items_view (drop l.set-index l.sets)))
    ≡ laid_sets l.repeat l.own (without_sets l.own l.fn.«data» l.first)
    (coded_sets l.style l.repeat.fields (items_view l.sets))
