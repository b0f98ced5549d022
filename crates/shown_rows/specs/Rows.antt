-- The documents that rows show, as a list of rows.
use Rattle.std.specs.Prelude.{ℕ, zero, suc, ◌+◌, List, [], ◌∷◌, ◌++◌, Option, Some, None}
use Rattle.doc_values.specs.Doc.{Fields}
use Rattle.row_versions.specs.History.{rows_of}
use Rattle.layout_store.specs.Storage.{Storage}
use Rattle.layout_store.specs.Shows.{shown}

-- A document in its row.
pub record Row : Type 0 where
  pub number : ℕ
  pub document : Fields

-- The row of a number, if it shows a document.
abbrev pub row_if : ℕ → Option Fields → List Row
row_if number None = []
row_if number (Some document) = record { number = number; document = document } ∷ []

-- The rows of the numbers below a bound, in their order, of what each shows.
abbrev pub rows_below : (ℕ → Option Fields) → ℕ → List Row
rows_below show zero = []
rows_below show (suc number) = rows_below show number ++ row_if number (show number)

-- All rows of a collection, with what they show after so many commits.
abbrev pub rows_at : Storage → ℕ → List Row
rows_at s n = rows_below (shown s n) (rows_of s.history.versions)

-- The rows of documents, numbered on from the number given.
abbrev pub rows_from : ℕ → List Fields → List Row
rows_from number [] = []
rows_from number (document ∷ documents) = record { number = number; document = document } ∷ rows_from (number + 1) documents

-- What a change makes of a row: one that shows nothing still shows nothing.
abbrev pub made_of : (Fields → Option Fields) → Option Fields → Option Fields
made_of change None = None
made_of change (Some document) = change document

-- The rows after a change of each document, which may take the row away.
abbrev pub change_rows : (Fields → Option Fields) → List Row → List Row
change_rows change [] = []
change_rows change (row ∷ rows) = row_if row.number (change row.document) ++ change_rows change rows
