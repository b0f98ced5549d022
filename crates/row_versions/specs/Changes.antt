-- What changed between two numbers of commits.
use Rattle.std.specs.Prelude.{◌≡◌, ℕ, ◌-◌, ◌<◌, ◌≤◌, List, Some, slice_get, ◌⊎◌}
use Rattle.row_versions.specs.declared.version.Version.{Version}
use Rattle.row_versions.specs.declared.change.Change.{Change}
use Rattle.row_versions.specs.History.{visible}

-- A version begins or ends at a commit.
abbrev pub Touches : ℕ → Version → Type 0
Touches commit v = (v.begin ≡ commit) ⊎ (v.end ≡ Some commit)

-- What a commit did to a row of which a version begins or ends there: what the row showed before it, and after it.
pub record IsChange (from to : ℕ) (versions : List Version) (c : Change) : Type 0 where
  pub above : from < c.commit
  pub within : c.commit ≤ to
  pub touched : (place : ℕ) × (v : Version) × (slice_get versions place ≡ Some v) × (v.row ≡ c.row) × Touches c.commit v
  pub before : c.before ≡ visible c.row (c.commit - 1) versions
  pub after : c.after ≡ visible c.row c.commit versions

-- One change comes before another: by commit, and then by row.
abbrev pub ComesBefore : Change → Change → Type 0
ComesBefore c d = (c.commit < d.commit) ⊎ ((c.commit ≡ d.commit) × (c.row < d.row))

-- The changes of the commits above one number and at most another: each commit and row once, in order, and none is missing.
pub record AreChanges (from to : ℕ) (versions : List Version) (changes : List Change) : Type 0 where
  pub each : (i : ℕ) (c : Change) → slice_get changes i ≡ Some c → IsChange from to versions c
  pub rise : (i j : ℕ) (c d : Change) → i < j → slice_get changes i ≡ Some c → slice_get changes j ≡ Some d → ComesBefore c d
  pub all : (place commit : ℕ) (v : Version) → slice_get versions place ≡ Some v → Touches commit v → from < commit → commit ≤ to
      → (i : ℕ) × (c : Change) × (slice_get changes i ≡ Some c) × (c.commit ≡ commit) × (c.row ≡ v.row)
