-- What a move leaves of a record and of all cells.
use Rattle.std.specs.Prelude.{◌≡◌, ℕ, List, Option, Some, None}
use Rattle.doc_values.specs.Value.{IsStorable}
use Rattle.doc_values.specs.declared.kind.Kind.{Kind}
use Rattle.doc_values.specs.declared.value.Value.{Value}
use Rattle.reservoir_record.specs.declared.fields.Field.{Field}
use Rattle.reservoir_record.specs.Editing.{with_field, without_field}
use Rattle.reservoir_record.specs.Finding.{value_of}
use Rattle.attr_catalog.specs.declared.home.Home.{Home}
use Rattle.attr_catalog.specs.declared.home.Home.TheVariants as home
use Rattle.phys_columns.specs.Cells.{Cells, cell_at, with_cell, without_cell}
use Rattle.document_records.specs.StoredValue.{bytes_of, value_in}

-- What the record had is gone from it and stands in the cell; where it had nothing, all is as it was.
abbrev pub HasMovedOut : Kind → ℕ → ℕ → Option (List ℕ) → List Field → List Field → Cells → Cells → Type 0
HasMovedOut of id version None before after cells left = (after ≡ before) × (left ≡ cells)
HasMovedOut of id version (Some bytes) before after cells left = (after ≡ without_field id before) × (left ≡ with_cell id version (value_in of bytes) cells) × IsStorable (value_in of bytes)

-- What the cell had is gone from it and stands in the record; where it had nothing, all is as it was.
abbrev pub HasMovedIn : ℕ → ℕ → Option Value → List Field → List Field → Cells → Cells → Type 0
HasMovedIn id version None before after cells left = (after ≡ before) × (left ≡ cells)
HasMovedIn id version (Some value) before after cells left = (after ≡ with_field id (bytes_of value) before) × (left ≡ without_cell id version cells)

-- What was on the other side than home stands at home; where nothing was, all is as it was.
abbrev pub HasMovedTo : Home → Kind → ℕ → ℕ → List Field → List Field → Cells → Cells → Type 0
HasMovedTo home.Column of id version before after cells left = HasMovedOut of id version (value_of id before) before after cells left
HasMovedTo home.Reservoir of id version before after cells left = HasMovedIn id version (cell_at id version cells) before after cells left
