-- What a way leads to, and what a path does.
use Rattle.std.specs.Prelude.{ℕ, List, [], ◌∷◌, Option, None, option_map, slice_get}
use Rattle.std.specs.Option.{option_map_or, option_or}
use Rattle.doc_values.specs.declared.value.Value.{Value}
use Rattle.reservoir_record.specs.declared.fields.Field.{Field}
use Rattle.reservoir_record.specs.Finding.{value_of}
use Rattle.attr_catalog.specs.Attribute.{Attribute}
use Rattle.attr_catalog.specs.declared.way.Way.{Way}
use Rattle.attr_catalog.specs.declared.way.Way.TheVariants as way
use Rattle.phys_columns.specs.Cells.{Cells, cell_at}
use Rattle.document_records.specs.StoredValue.{value_in}

-- The value of an attribute that stands in a record.
abbrev pub value_stored : List Attribute → List Field → ℕ → Option Value
value_stored attributes fields id = option_map_or (λ a. option_map (value_in a.kind) (value_of id fields)) (slice_get attributes id) None

-- The value to which a way leads: that of the cell, that of the record, or the first of both.
abbrev pub value_by : List Attribute → List Field → Cells → ℕ → Way → Option Value
value_by attributes fields cells version (way.Column id) = cell_at id.0 version cells
value_by attributes fields cells version (way.Extract id) = value_stored attributes fields id.0
value_by attributes fields cells version (way.Either id) = option_or (cell_at id.0 version cells) (value_stored attributes fields id.0)

-- The first value to which one of some ways leads.
abbrev pub first_of : (Way → Option Value) → List Way → Option Value
first_of value [] = None
first_of value (w ∷ ws) = option_or (value w) (first_of value ws)
