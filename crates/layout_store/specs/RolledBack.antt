-- What a roll back leaves of the storage, and what rows show after it.
use Rattle.std.specs.Prelude.{◌≡◌, ℕ, ◌+◌, ◌-◌, ◌<◌, ◌≤◌, Bool, false, nat_lt, nat_le, List, length, take, Option, Some, None, slice_get, option_and_then, if◌then◌else◌}
use Rattle.reservoir_record.specs.declared.fields.Field.{Field}
use Rattle.reservoir_record.specs.Finding.{value_of}
use Rattle.attr_catalog.specs.Attribute.{Attribute, raised}
use Rattle.phys_columns.specs.Cells.{Cells, cell_at}
use Rattle.row_versions.specs.declared.version.Version.{Version}
use Rattle.row_versions.specs.History.{rolled_back}
use Rattle.layout_store.specs.Storage.{Storage, record_at, either_side, in_cell, held}
use Rattle.layout_store.specs.Documents.{holders}
use Rattle.layout_store.specs.Shows.{shown}
use Rattle.layout_store.specs.Changes.{AreChanged}

-- A mark, if it is below a number of versions.
abbrev pub mark_below : ℕ → Option ℕ → Option ℕ
mark_below versions None = None
mark_below versions (Some clean_to) = if nat_lt clean_to versions then Some clean_to else None

-- An attribute of which only so many versions are left: it is clean where its mark is not below them.
abbrev pub settled : ℕ → Attribute → Attribute
settled versions a = record a { mark = mark_below versions a.mark }

-- An attribute that so many documents hold.
abbrev pub counted : ℕ → Attribute → Attribute
counted documents a = record a { count = documents }

-- The versions and ends of a commit are gone, and the attributes from a number on. What is left stands where it stood, counts are exact, and marks that no version is behind are gone.
pub record HasRolledBack (commit left : ℕ) (before after : Storage) : Type 0 where
  pub history : after.history ≡ record { versions = rolled_back commit before.history.versions; horizon = before.history.horizon }
  pub attributes : AreChanged (λ id a. settled (length after.history.versions) (counted (holders after.history.versions (held before) id) a)) (take left before.attributes) after.attributes
  pub records : after.records ≡ take (length after.history.versions) before.records
  pub cells : (version id : ℕ) → version < length after.history.versions → in_cell after version id ≡ in_cell before version id
  pub gone : (version id : ℕ) → length after.history.versions ≤ version → in_cell after version id ≡ None

-- Before a commit every row shows what it did, and from it on what it showed just before it.
pub record ShowsAsBefore (commit : ℕ) (before after : Storage) : Type 0 where
  pub earlier : (n row : ℕ) → n < commit → shown after n row ≡ shown before n row
  pub later : (n row : ℕ) → commit ≤ n → shown after n row ≡ shown before (commit - 1) row

-- What a version holds of an attribute, by its record and its cell.
abbrev pub held_in : List (List Field) → Cells → ℕ → ℕ → Option (List ℕ)
held_in records cells version id = either_side (value_of id (record_at version records)) (cell_at id version cells)

-- Whether an end comes at a commit or later.
abbrev pub ends_from : ℕ → Option ℕ → Bool
ends_from commit None = false
ends_from commit (Some end) = nat_le commit end

-- Whether a version loses its end when a commit is taken back.
abbrev pub is_reopened : ℕ → List Version → ℕ → Bool
is_reopened commit versions version = ends_from commit (option_and_then (λ v. v.end) (slice_get versions version))

-- An attribute that so many documents more hold, and so many fewer.
abbrev pub raised_by : ℕ → Attribute → Attribute
raised_by documents a = record a { count = a.count + documents }

abbrev pub lowered_by : ℕ → Attribute → Attribute
lowered_by documents a = record a { count = a.count - documents }

-- The attribute, counted once more where a test holds.
abbrev pub raised_if : Bool → Attribute → Attribute
raised_if test a = if test then raised a else a
