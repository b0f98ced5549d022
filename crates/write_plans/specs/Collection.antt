-- What a collection is, and what loaded documents make of it.
use Rattle.std.specs.Prelude.{ℕ, ◌+◌, List, [], ◌++◌, Bool, ◌||◌, nat_lt, length, fold}
use Rattle.doc_values.specs.Doc.{Fields}
use Rattle.doc_values.specs.declared.kind.Kind.{Kind}
use Rattle.attr_catalog.specs.Catalog.{most_attributes, most_versions}
use Rattle.document_records.specs.Pairs.{with_fields}
pub use Rattle.shown_rows.specs.Rows.{Row, rows_from}

-- A collection: its rows, the number of the next row, how many versions were written, and the pairs of name and kind ever written.
pub record Collection : Type 0 where
  pub name : List ℕ
  pub rows : List Row
  pub next_row : ℕ
  pub versions : ℕ
  pub pairs : List (List ℕ × Kind)

-- A collection that nothing was put into.
abbrev pub new_collection : List ℕ → Collection
new_collection name = record { name = name; rows = []; next_row = 0; versions = 0; pairs = [] }

-- The collection with documents behind its rows: each is one version written.
abbrev pub with_documents : List Fields → Collection → Collection
with_documents documents collection =
    record {
      name = collection.name;
      rows = collection.rows ++ rows_from collection.next_row documents;
      next_row = collection.next_row + length documents;
      versions = collection.versions + length documents;
      pairs = fold with_fields collection.pairs documents;
    }

-- The collection has more pairs of name and kind, or more versions, than it may have.
abbrev pub is_beyond : Collection → Bool
is_beyond collection = nat_lt most_attributes (length collection.pairs) || nat_lt most_versions collection.versions
