use Rattle.std.proofs.Common.{◌≡◌, drop}
use Rattle.json.specs.Value.{value_view}
use Rattle.n2k_encode.specs.Coded.{coded_all}
use Rattle.n2k_encode.specs.Steps.{before_all}
use Rattle.n2k_encode.proofs.coded.coded_fields.Given as goal

-- the fields so far before those that are left are all
abbrev pub invariant-loop-field : goal.invariant-loop-field
invariant-loop-field l =
    before_all l.all.items (coded_all l.style (value_view l.object) (drop l.field-index l.fields))
    ≡ coded_all l.style (value_view l.object) l.fields
