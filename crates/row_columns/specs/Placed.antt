-- Rows by their columns, and tuples by the numbers of their rows.
use Rattle.std.specs.Prelude.{ℕ, List, [], ◌∷◌, map, Option, Some, None, option_and_then, slice_get}
use Rattle.std.specs.List.{range_with_len}
use Rattle.doc_values.specs.Doc.{Fields}
use Rattle.doc_values.specs.declared.value.Value.{Value}
use Rattle.row_columns.specs.Contents.{Cells}
use Rattle.row_columns.specs.Sides.{side_at}
use Rattle.row_columns.specs.Column.{Values}
use Rattle.row_columns.specs.declared.place.Place.{Place}

-- A tuple: a row for each table, any of which may be missing.
abbrev pub Tuple : Type 0
Tuple = List (Option Cells)

-- The value of a column in a row; none where it is NULL, and past the column's end.
abbrev pub value_in : ℕ → Values → Option Value
value_in row column = option_and_then (λ cell. cell) (slice_get column row)

-- The row of a number over the columns, with its document where there are documents.
abbrev pub row_at : List Values → List Fields → ℕ → Cells
row_at columns docs row = record { cells = map (value_in row) columns; doc = slice_get docs row }

-- So many rows over their columns.
abbrev pub rows_of : ℕ → List Values → List Fields → List Cells
rows_of rows columns docs = map (row_at columns docs) (range_with_len 0 rows)

-- The value of a column in a row of a table.
abbrev pub cell_of : List Cells → ℕ → ℕ → Option Value
cell_of table row column = option_and_then (λ (r : Cells). option_and_then (λ cell. cell) (slice_get r.cells column)) (slice_get table row)

-- The rows of tables with these numbers; a number that no row has is a missing side.
abbrev pub sides : List (List Cells) → List ℕ → Tuple
sides [] rows = []
sides (t ∷ ts) [] = None ∷ sides ts []
sides (t ∷ ts) (n ∷ ns) = slice_get t n ∷ sides ts ns

-- The tuple of a place.
abbrev pub tuple_at : List (List Cells) → Place → Tuple
tuple_at tables place = sides tables place.rows

-- The tuples of places.
abbrev pub tuples_of : List (List Cells) → List Place → List Tuple
tuples_of tables places = map (tuple_at tables) places

-- The value of a column in the row of a table's side.
abbrev pub cell_on : Tuple → ℕ → ℕ → Option Value
cell_on tuple table column = option_and_then (λ (r : Cells). option_and_then (λ cell. cell) (slice_get r.cells column)) (side_at tuple table)

-- The place of a row of the first table alone.
abbrev pub alone_at : ℕ → Place
alone_at row = record { rows = row ∷ 4294967295 ∷ 4294967295 ∷ [] }
