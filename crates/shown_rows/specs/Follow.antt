-- How a list of rows follows what each row shows.
use Rattle.std.specs.Prelude.{◌≡◌, ℕ, ◌+◌, ◌<◌, ◌≤◌, nat_lt, List, ◌++◌, length, filter, Option, Some, None, option_map, slice_get}
use Rattle.doc_values.specs.Doc.{Fields}
use Rattle.row_versions.specs.History.{rows_of, newest}
use Rattle.row_versions.specs.Order.{IsLatest}
use Rattle.layout_store.specs.Storage.{Storage}
use Rattle.layout_store.specs.Documents.{document_at}
use Rattle.layout_store.specs.Shows.{shown}
use Rattle.shown_rows.specs.Rows.{Row, rows_below, rows_at, rows_from, made_of, change_rows}

-- A row of the list is one below the bound, with what it shows; and each row that shows a document stands in the list.
pub record AreShown (show : ℕ → Option Fields) (bound : ℕ) (rows : List Row) : Type 0 where
  pub each : (place : ℕ) (row : Row) → slice_get rows place ≡ Some row → (row.number < bound) × (show row.number ≡ Some row.document)
  pub rise : (i j : ℕ) (a b : Row) → i < j → slice_get rows i ≡ Some a → slice_get rows j ≡ Some b → a.number < b.number
  pub all : (number : ℕ) (document : Fields) → number < bound → show number ≡ Some document → (place : ℕ) × (slice_get rows place ≡ Some (record { number = number; document = document }))

-- The law, over what rows show and over storages.
pub record RowsFollow : Type 0 where
  -- the list holds each row that shows a document, once, in the order of their numbers
  pub listed : (show : ℕ → Option Fields) (bound : ℕ) → AreShown show bound (rows_below show bound)
  -- rows that show the same below a bound are the same list
  pub alike : (show other : ℕ → Option Fields) (bound : ℕ) → ((number : ℕ) → number < bound → show number ≡ other number) → rows_below show bound ≡ rows_below other bound
  -- rows that show nothing from a bound on add nothing
  pub empty : (show : ℕ → Option Fields) (bound more : ℕ) → bound ≤ more → ((number : ℕ) → bound ≤ number → show number ≡ None) → rows_below show more ≡ rows_below show bound
  -- the rows below a bound are a front of all
  pub front : (show : ℕ → Option Fields) (bound more : ℕ) → bound ≤ more → rows_below show bound ≡ filter (λ row. nat_lt row.number bound) (rows_below show more)
  -- a change of each document is a change of the list
  pub changed : (change : Fields → Option Fields) (show : ℕ → Option Fields) (bound : ℕ) → rows_below (λ number. made_of change (show number)) bound ≡ change_rows change (rows_below show bound)
  -- documents that the next numbers show stand behind the others
  pub loaded : (show : ℕ → Option Fields) (bound : ℕ) (documents : List Fields) → ((i : ℕ) (document : Fields) → slice_get documents i ≡ Some document → show (bound + i) ≡ Some document)
      → rows_below show (bound + length documents) ≡ rows_below show bound ++ rows_from bound documents
  -- what all rows show at a number is the same list in two storages where each row shows the same, however many rows they have
  pub same : (s t : Storage) (m n : ℕ) → ((row : ℕ) → shown t n row ≡ shown s m row) → rows_at t n ≡ rows_at s m
  -- a number that no row has shows nothing
  pub unborn : (s : Storage) (n row : ℕ) → rows_of s.history.versions ≤ row → shown s n row ≡ None
  -- where nothing begins or ends after a commit, rows show the same from it on
  pub latest : (s : Storage) (commit n row : ℕ) → IsLatest commit s.history.versions → commit ≤ n → shown s n row ≡ shown s commit row
  -- and that is the document of their newest version
  pub standing : (s : Storage) (commit row : ℕ) → IsLatest commit s.history.versions → option_map (λ version. document_at s version.0) (newest row s.history.versions) ≡ shown s commit row
