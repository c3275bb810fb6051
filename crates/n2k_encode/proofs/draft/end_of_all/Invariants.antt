use Rattle.std.proofs.Common.{◌≡◌, Some, drop, fold, map}
use Rattle.n2k_encode.specs.Draft.{last_of, own_end}
use Rattle.n2k_encode.proofs.draft.end_of_all.Given as goal

-- the end so far and those of the fields that are left make the end of all
abbrev pub invariant-loop-coded : goal.invariant-loop-coded
invariant-loop-coded l =
    fold last_of l.end (map (own_end l.all l.«data») (drop l.coded-index l.fields)) ≡ fold last_of (Some 0) (map (own_end l.all l.«data») l.fields)
