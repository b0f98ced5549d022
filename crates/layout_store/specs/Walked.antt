-- What a walk over versions has left.
use Rattle.std.specs.Prelude.{List, map, drop, Option, option_map}
use Rattle.doc_values.specs.Lent.{owned}
use Rattle.doc_values.specs.declared.value.Value.{Value}
use Rattle.doc_values.specs.declared.value_ref.ValueRef.{ValueRef}
use Rattle.attr_catalog.specs.declared.way.Way.{Way}
use Rattle.row_versions.specs.declared.version_id.VersionId.{VersionId}
use Rattle.layout_store.specs.declared.value_walk.ValueWalk.{ValueWalk}
use Rattle.layout_store.specs.Storage.{Storage, record_at}
use Rattle.layout_store.specs.Along.{value_by, first_of}

-- The first value to which some ways lead in a version.
abbrev pub value_along : Storage → List Way → VersionId → Option Value
value_along s ways version = first_of (value_by s.attributes (record_at version.0 s.records) s.cells version.0) ways

-- That of each version that a walk has left.
abbrev pub left_of : ValueWalk → List (Option Value)
left_of walk = map (value_along walk.layout.now walk.ways.now) (drop walk.place walk.versions.now)

-- An item of a walk, as a value or none.
abbrev pub shown : Option ValueRef → Option Value
shown item = option_map owned item
