-- The id of a table, as the code keeps it.
use Rattle.std.specs.Prelude.{ℕ, List}
use Rattle.std.specs.Arc.{arc_slice_items}
use Rattle.sha2.specs.Sha256.{sha256}
use Rattle.n2k_table.specs.declared.table_id.Origin.{Origin}
use Rattle.n2k_table.specs.declared.table_id.Origin.TheVariants.{Bytes, Id}

-- the SHA-256 of the bytes, or the id that is known
abbrev pub id_of : Origin → List ℕ
id_of (Bytes bytes) = sha256 (arc_slice_items bytes)
id_of (Id id) = id
