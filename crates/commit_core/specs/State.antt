-- What a store holds: its collections with their documents.
use Rattle.std.specs.Prelude.{◌≡◌, ℕ, ◌<◌, ◌≤◌, List, [], Bool, length, map, Option, Some, None, slice_get}
use Rattle.std.specs.List.{All, Contains, find}
use Rattle.std.specs.Str.{bytes_eq}
use Rattle.doc_values.specs.Doc.{Fields}
use Rattle.doc_values.specs.Weight.{weight_of}
use Rattle.doc_values.specs.declared.kind.Kind.{Kind}
use Rattle.doc_flatten.specs.Documents.{IsWithinLimits}
use Rattle.attr_catalog.specs.Catalog.{most_attributes, most_versions}
use Rattle.document_records.specs.Limits.{most_weight}
pub use Rattle.document_records.specs.Pairs.{pair_of}
pub use Rattle.write_plans.specs.Collection.{Row, Collection}

-- How many collections a state may have.
abbrev pub most_collections : ℕ
most_collections = 256

-- A state: the collections in the order of their first load; `IsState` says which rules it keeps.
abbrev pub State : Type 0
State = List Collection

-- The state in which nothing was loaded.
abbrev pub opening : State
opening = []

-- The collection has this name.
abbrev pub is_named : List ℕ → Collection → Bool
is_named name collection = bytes_eq name collection.name

-- The collection with a name, if there is one.
abbrev pub collection_at : List ℕ → State → Option Collection
collection_at name state = find (is_named name) state

-- The documents of a collection, if there is one.
abbrev pub documents_of_rows : Option Collection → List Fields
documents_of_rows None = []
documents_of_rows (Some collection) = map (λ row. row.document) collection.rows

-- The documents of a collection, in the order of their rows; none where it is unknown.
abbrev pub documents_at : List ℕ → State → List Fields
documents_at name state = documents_of_rows (collection_at name state)

-- A document of a collection with these pairs: it keeps the limits of documents, weighs no more than it may, and the pair of each of its fields is among them.
pub record IsDocumentOf (pairs : List (List ℕ × Kind)) (document : Fields) : Type 0 where
  pub limits : IsWithinLimits document
  pub light : weight_of document ≤ most_weight
  pub paired : All (λ field. Contains pairs (pair_of field)) document

-- The rules that a collection keeps.
pub record IsCollection (collection : Collection) : Type 0 where
  -- the numbers of its rows ascend
  pub ascending : (i j : ℕ) (a b : Row) → i < j → slice_get collection.rows i ≡ Some a → slice_get collection.rows j ≡ Some b → a.number < b.number
  -- each of them is below the number of the next row
  pub below : (i : ℕ) (row : Row) → slice_get collection.rows i ≡ Some row → row.number < collection.next_row
  -- each row has a document of the collection
  pub documents : (i : ℕ) (row : Row) → slice_get collection.rows i ≡ Some row → IsDocumentOf collection.pairs row.document
  -- no pair of name and kind stands twice
  pub once : (i j : ℕ) (a b : List ℕ × Kind) → slice_get collection.pairs i ≡ Some a → slice_get collection.pairs j ≡ Some b → a ≡ b → i ≡ j
  -- it has no more pairs than it may have
  pub few_pairs : length collection.pairs ≤ most_attributes
  -- and no more versions
  pub few_versions : collection.versions ≤ most_versions

-- The rules that a state keeps.
pub record IsState (state : State) : Type 0 where
  -- it has no more collections than it may have
  pub few : length state ≤ most_collections
  -- no two collections have one name
  pub names : (i j : ℕ) (a b : Collection) → slice_get state i ≡ Some a → slice_get state j ≡ Some b → a.name ≡ b.name → i ≡ j
  -- each collection keeps its rules
  pub each : (i : ℕ) (collection : Collection) → slice_get state i ≡ Some collection → IsCollection collection
