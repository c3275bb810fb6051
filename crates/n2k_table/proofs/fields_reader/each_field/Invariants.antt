-- Reading goes on from the fields so far as it began.
use Rattle.std.proofs.Common.{◌≡◌, [], drop, map}
use Rattle.toml.specs.View.{view}
use Rattle.n2k_table.specs.Reading.{each_by_earlier}
use Rattle.n2k_table.specs.Field.{field}
use Rattle.n2k_table.proofs.fields_reader.each_field.Given as goal

abbrev pub invariant-loop-value : goal.invariant-loop-value
invariant-loop-value l =
    each_by_earlier (field l.format l.holder l.lookups) l.fields.items (map view (drop l.value-index l.values))
    ≡ each_by_earlier (field l.format l.holder l.lookups) [] (map view l.values)
