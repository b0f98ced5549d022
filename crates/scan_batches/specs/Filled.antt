-- Rows that were read, as their columns hold them.
use Rattle.std.specs.Prelude.{◌≡◌, ℕ, Bool, true, false, List, [], ◌∷◌, ◌++◌, length, Some, slice_get}
use Rattle.doc_values.specs.Doc.{Fields}
use Rattle.row_columns.specs.Column.{Values}
use Rattle.row_columns.specs.Contents.{Cells}

-- How many columns rows have, whether they have their documents, and the rows.
pub record RowsOf : Type 0 where
  pub width : ℕ
  pub whole : Bool
  pub rows : List Cells

-- Each column has so many values.
abbrev pub AreOfLength : ℕ → List Values → Type 0
AreOfLength count columns = (i : ℕ) (column : Values) → slice_get columns i ≡ Some column → length column ≡ count

-- How many documents so many rows have.
abbrev pub documents_for : Bool → ℕ → ℕ
documents_for true count = count
documents_for false count = 0

-- Each column has a value for each row, and so have the documents, where whole ones are asked for.
pub record AreFilled (count : ℕ) (columns : List Values) (whole : Bool) (docs : List Fields) : Type 0 where
  pub even : AreOfLength count columns
  pub documents : length docs ≡ documents_for whole count

-- Columns with more values behind those of each, as far as there are columns of such.
abbrev pub put_behind : List Values → List Values → List Values
put_behind [] more = []
put_behind (column ∷ columns) [] = column ∷ columns
put_behind (column ∷ columns) (values ∷ more) = (column ++ values) ∷ put_behind columns more
