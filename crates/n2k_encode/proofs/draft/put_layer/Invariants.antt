use Rattle.std.proofs.Common.{◌≡◌, drop}
use Rattle.n2k_encode.specs.Draft.{put_layer}
use Rattle.n2k_encode.proofs.draft.put_layer.Given as goal

-- with the fields that are left all are set
abbrev pub invariant-loop-coded : goal.invariant-loop-coded
invariant-loop-coded l = put_layer l.layer (drop l.coded-index l.fields) l.«data» ≡ put_layer l.layer l.fields l.fn.«data»
