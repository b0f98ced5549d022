-- What is fed to a hasher for a row, which rows that are alike have in common.
use Rattle.std.specs.Prelude.{ℕ, List, [], ◌++◌, flat_map, Option, Some, None, unwrap_or}
use Rattle.std.specs.Hash as fed
use Rattle.doc_values.specs.declared.value.Value as value
use Rattle.row_columns.specs.Contents.{Output}

-- The writes for a value, or for NULL.
abbrev pub value_fed : Option value.Value → List (List ℕ)
value_fed None = fed.u8 0
value_fed (Some (value.TheVariants.Bool b)) = fed.bool b
value_fed (Some (value.TheVariants.Int n)) = fed.i128 n
value_fed (Some (value.TheVariants.Text text)) = fed.str text
value_fed (Some (value.TheVariants.Array text)) = fed.str text
value_fed (Some value.TheVariants.Object) = fed.u8 1

-- The writes for a field of a document.
abbrev pub field_fed : (List ℕ × value.Value) → List (List ℕ)
field_fed f = fed.str f.0 ++ value_fed (Some f.1)

-- The writes for a row: its items and its document.
abbrev pub row_fed : Output → List (List ℕ)
row_fed row = flat_map value_fed row.items ++ flat_map field_fed (unwrap_or row.doc [])
