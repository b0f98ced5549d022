-- The storage of a collection as contracts see it: nothing of it is hidden.
use Rattle.std.specs.Prelude.{ℕ, List, [], Option, option_map, unwrap_or, slice_get}
use Rattle.std.specs.Option.{option_or}
use Rattle.doc_values.specs.declared.value.Value.{Value}
use Rattle.reservoir_record.specs.declared.fields.Field.{Field}
use Rattle.reservoir_record.specs.Finding.{value_of}
use Rattle.attr_catalog.specs.Attribute.{Attribute}
use Rattle.row_versions.specs.History.{History}
use Rattle.phys_columns.specs.Cells.{Cells, cell_at}
use Rattle.document_records.specs.StoredValue.{bytes_of}

-- The attributes, the versions of the rows, the fields of each version's record, and the values of all cells.
pub record Storage : Type 0 where
  pub attributes : List Attribute
  pub history : History
  pub records : List (List Field)
  pub cells : Cells

-- The fields of a version's record; past the last version none.
abbrev pub record_at : ℕ → List (List Field) → List Field
record_at version records = unwrap_or (slice_get records version) []

-- What stands for an attribute in a version's record.
abbrev pub in_record : Storage → ℕ → ℕ → Option (List ℕ)
in_record s version id = value_of id (record_at version s.records)

-- What stands for it in the version's cell.
abbrev pub in_cell : Storage → ℕ → ℕ → Option Value
in_cell s version id = cell_at id version s.cells

-- What is held of two sides, as bytes.
abbrev pub either_side : Option (List ℕ) → Option Value → Option (List ℕ)
either_side recorded celled = option_or recorded (option_map bytes_of celled)

-- What a version holds of an attribute, on whichever side it stands, as bytes.
abbrev pub held : Storage → ℕ → ℕ → Option (List ℕ)
held s version id = either_side (in_record s version id) (in_cell s version id)
