-- What a write leaves of the storage of a collection, or what it leaves where it is not done.
use Rattle.std.specs.Prelude.{◌≡◌, ℕ, ◌+◌, ◌≤◌, List, map, length, ◌⊎◌}
use Rattle.row_versions.specs.History.{rows_of}
use Rattle.row_versions.specs.Order.{IsLatest}
use Rattle.document_records.specs.StoredDocument.{pairs_of}
use Rattle.layout_store.specs.Storage.{Storage, held}
use Rattle.layout_store.specs.RolledBack.{settled}
use Rattle.shown_rows.specs.Rows.{rows_at}
use Rattle.write_plans.specs.Collection.{Collection}

-- The collection that a storage shows after so many commits.
abbrev pub collection_in : List ℕ → Storage → ℕ → Collection
collection_in name s n = record { name = name; rows = rows_at s n; next_row = rows_of s.history.versions; versions = length s.history.versions; pairs = pairs_of s.attributes }

-- Nothing begins or ends after so many commits, and nothing later was given up.
pub record IsSettled (now : ℕ) (s : Storage) : Type 0 where
  pub latest : IsLatest now s.history.versions
  pub horizon : s.history.horizon ≤ now

-- By the commit that follows on so many the collection is changed, and at each number before it all rows are as they were.
pub record HasBecome (change : Collection → Collection) (now : ℕ) (before after : Storage) : Type 0 where
  pub changed : (name : List ℕ) → collection_in name after (now + 1) ≡ change (collection_in name before now)
  pub earlier : (n : ℕ) → n ≤ now → rows_at after n ≡ rows_at before n
  pub latest : IsLatest (now + 1) after.history.versions
  pub horizon : after.history.horizon ≡ before.history.horizon

-- Attributes, versions and all that is held are as before, but for marks that no version is behind.
pub record StandsAsBefore (before after : Storage) : Type 0 where
  pub attributes : (after.attributes ≡ before.attributes) ⊎ (after.attributes ≡ map (settled (length before.history.versions)) before.attributes)
  pub history : after.history ≡ before.history
  pub held : (version id : ℕ) → held after version id ≡ held before version id
