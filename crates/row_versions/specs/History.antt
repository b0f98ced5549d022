-- The versions of the rows of a collection, and which of them a row shows after a number of commits.
use Rattle.std.specs.Prelude.{ℕ, ◌+◌, max, Bool, true, false, not, ◌&&◌, ◌==◌, nat_lt, nat_le, List, [], ◌∷◌, map, filter, Option, Some, None, option_map, is_some, slice_get, slice_set, position, if◌then◌else◌}
use Rattle.std.specs.Option.{option_map_or}
use Rattle.row_versions.specs.declared.version.Version.{Version}
use Rattle.row_versions.specs.declared.version_id.VersionId.{VersionId}

-- The versions in the order in which they were written, and the number of commits below which nothing need be known.
pub record History : Type 0 where
  pub versions : List Version
  pub horizon : ℕ

-- How many versions a collection may have.
abbrev pub most_versions : ℕ
most_versions = 2097152

-- The number of the version at a place.
abbrev pub version_at : ℕ → VersionId
version_at place = record { 0 = place }

-- How many rows there are: one more than the greatest row of a version.
abbrev pub rows_of : List Version → ℕ
rows_of [] = 0
rows_of (v ∷ vs) = max (v.row + 1) (rows_of vs)

-- Whether an end, or none, leaves a version seen after so many commits.
abbrev pub is_open : ℕ → Option ℕ → Bool
is_open n None = true
is_open n (Some end) = nat_lt n end

-- Whether a version is one that the row shows after so many commits: it has begun by then, and not ended.
abbrev pub is_seen : ℕ → ℕ → Version → Bool
is_seen row n v = v.row == row && (nat_le v.begin n && is_open n v.end)

-- The version that a row shows after so many commits, if it shows one.
abbrev pub visible : ℕ → ℕ → List Version → Option VersionId
visible row n versions = option_map version_at (position (is_seen row n) versions)

-- Whether a version is one of the row and has no end.
abbrev pub is_newest : ℕ → Version → Bool
is_newest row v = v.row == row && not (is_some v.end)

-- The version of a row that has no end, if there is one.
abbrev pub newest : ℕ → List Version → Option VersionId
newest row versions = option_map version_at (position (is_newest row) versions)

-- A version of a row that begins at a commit.
abbrev pub begun : ℕ → ℕ → Version
begun row commit = record { row = row; begin = commit; end = None; emptied = false }

-- A version that ends at a commit.
abbrev pub ended : ℕ → Version → Version
ended commit v = record v { end = Some commit }

-- A version without an end.
abbrev pub endless : Version → Version
endless v = record v { end = None }

-- A version whose content was given up.
abbrev pub given_up : Version → Version
given_up v = record v { emptied = true }

-- The versions with the one at a place changed.
abbrev pub changed : (Version → Version) → ℕ → List Version → List Version
changed change place versions = option_map_or (λ v. slice_set versions place (change v)) (slice_get versions place) versions

-- An end, if it came before a commit.
abbrev pub end_before : ℕ → Option ℕ → Option ℕ
end_before commit None = None
end_before commit (Some end) = if nat_lt end commit then Some end else None

-- A version without the end that it has from a commit on.
abbrev pub reopened : ℕ → Version → Version
reopened commit v = record v { end = end_before commit v.end }

-- The versions as they were before a commit: those that had begun, without the ends from it on.
abbrev pub rolled_back : ℕ → List Version → List Version
rolled_back commit versions = map (reopened commit) (filter (λ v. nat_lt v.begin commit) versions)
