-- The order that versions keep.
use Rattle.std.specs.Prelude.{◌≡◌, ℕ, ◌<◌, ◌≤◌, true, List, length, Some, slice_get}
use Rattle.row_versions.specs.declared.version.Version.{Version}
use Rattle.row_versions.specs.History.{History, most_versions}

-- A version has an end, which is at most a number.
abbrev pub HasEndedBy : ℕ → Version → Type 0
HasEndedBy n v = (end : ℕ) × (v.end ≡ Some end) × (end ≤ n)

-- Begins never fall along the list.
abbrev pub BeginsRise : List Version → Type 0
BeginsRise versions = (i j : ℕ) (a b : Version) → i < j → slice_get versions i ≡ Some a → slice_get versions j ≡ Some b → a.begin ≤ b.begin

-- Begins never fall; no version ends before it begins; and a version has ended when a later one of its row begins.
pub record AreOrdered (versions : List Version) : Type 0 where
  pub rise : BeginsRise versions
  pub last : (i : ℕ) (v : Version) (end : ℕ) → slice_get versions i ≡ Some v → v.end ≡ Some end → v.begin ≤ end
  pub follow : (i j : ℕ) (a b : Version) → i < j → slice_get versions i ≡ Some a → slice_get versions j ≡ Some b → a.row ≡ b.row → HasEndedBy b.begin a

-- No version begins or ends after a commit.
pub record IsLatest (commit : ℕ) (versions : List Version) : Type 0 where
  pub begins : (i : ℕ) (v : Version) → slice_get versions i ≡ Some v → v.begin ≤ commit
  pub ends : (i : ℕ) (v : Version) (end : ℕ) → slice_get versions i ≡ Some v → v.end ≡ Some end → end ≤ commit

-- What every history keeps: the order, a bound on the versions, and that what was emptied ended by the horizon.
pub record KeepsOrder (h : History) : Type 0 where
  pub ordered : AreOrdered h.versions
  pub few : length h.versions ≤ most_versions
  pub emptied : (i : ℕ) (v : Version) → slice_get h.versions i ≡ Some v → v.emptied ≡ true → HasEndedBy h.horizon v
