use Rattle.std.proofs.Common.{◌≡◌, drop}
use Rattle.json.specs.Value.{items_view}
use Rattle.n2k_table.specs.Repeat.{sets, sets_in}
use Rattle.n2k_encode.specs.Reading.{sets_show}
use Rattle.n2k_encode.proofs.reading.Reading.sets_show.Given as goal

-- the sets that are left show what is left of the given ones, if all show all
abbrev pub invariant-loop-set : goal.invariant-loop-set
invariant-loop-set l =
    sets_show l.self l.repeat.fields (items_view (drop l.set-index l.wanted)) (sets_in l.repeat l.rest)
    ≡ sets_show l.self l.repeat.fields (items_view l.wanted) (sets l.repeat l.«data»)
