-- What stands of a write that is under way: all that was before it can be had back.
use Rattle.std.specs.Prelude.{◌≡◌, ℕ, ◌+◌, ◌<◌, ◌≤◌, List, ◌++◌, length, map, take, fold, Some, slice_get}
use Rattle.doc_values.specs.Doc.{Fields}
use Rattle.attr_catalog.specs.Attribute.{Attribute}
use Rattle.row_versions.specs.declared.version.Version.{Version}
use Rattle.row_versions.specs.History.{rows_of, rolled_back}
use Rattle.row_versions.specs.Order.{IsLatest}
use Rattle.document_records.specs.Pairs.{with_fields}
use Rattle.document_records.specs.StoredDocument.{pairs_of}
use Rattle.layout_store.specs.Storage.{Storage}
use Rattle.layout_store.specs.RolledBack.{settled, counted}
use Rattle.layout_store.specs.Shows.{shown}

-- Items may stand behind those that stood.
pub record IsFront {X : Type 0} (front all : List X) : Type 0 where
  pub more : List X
  pub is : all ≡ front ++ more

-- An attribute without its count, and without a mark that none of so many versions is behind.
abbrev pub bare : ℕ → Attribute → Attribute
bare versions a = counted 0 (settled versions a)

-- A commit has written versions and ends, and nothing else: taken back, it leaves what was before.
pub record CanBeTakenBack (commit : ℕ) (before now : Storage) : Type 0 where
  pub latest : IsLatest commit now.history.versions
  pub back : rolled_back commit now.history.versions ≡ rolled_back commit before.history.versions
  pub longer : length before.history.versions ≤ length now.history.versions
  pub young : (place : ℕ) (v : Version) → length before.history.versions ≤ place → slice_get now.history.versions place ≡ Some v → commit ≤ v.begin
  pub horizon : now.history.horizon ≡ before.history.horizon
  pub records : IsFront before.records now.records
  pub cells : now.cells ≡ before.cells
  pub attributes : IsFront (map (bare (length before.history.versions)) before.attributes) (map (bare (length before.history.versions)) now.attributes)

-- The first so many of some documents stand in new rows from a commit on, and all else shows as it did.
pub record AreAdded (commit : ℕ) (documents : List Fields) (so_many : ℕ) (before now : Storage) : Type 0 where
  pub pairs : pairs_of now.attributes ≡ fold with_fields (pairs_of before.attributes) (take so_many documents)
  pub many : length now.history.versions ≡ length before.history.versions + so_many
  pub rows : rows_of now.history.versions ≡ rows_of before.history.versions + so_many
  pub earlier : (n row : ℕ) → n < commit → shown now n row ≡ shown before n row
  pub standing : (n row : ℕ) → row < rows_of before.history.versions → shown now n row ≡ shown before n row
  pub added : (n i : ℕ) (document : Fields) → commit ≤ n → i < so_many → slice_get documents i ≡ Some document → shown now n (rows_of before.history.versions + i) ≡ Some document
