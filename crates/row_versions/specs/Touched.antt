-- The commits at which versions begin and end, as they are gathered and put in order for the changes.
use Rattle.std.specs.Prelude.{◌≡◌, ℕ, ◌<◌, ◌≤◌, List, Some, slice_get, ◌⊎◌}
use Rattle.std.specs.List.{Contains}
use Rattle.row_versions.specs.declared.version.Version.{Version}
use Rattle.row_versions.specs.declared.touch.Touch.{Touch}
use Rattle.row_versions.specs.Changes.{Touches}

-- A version begins or ends at a commit above one number and at most another.
pub record IsTouch (from to : ℕ) (versions : List Version) (t : Touch) : Type 0 where
  pub above : from < t.commit
  pub within : t.commit ≤ to
  pub version : Version
  pub there : slice_get versions t.place ≡ Some version
  pub named : version.row ≡ t.row
  pub at : Touches t.commit version

-- The list has all of them, and nothing else.
pub record AreTouches (from to : ℕ) (versions : List Version) (touches : List Touch) : Type 0 where
  pub only : (t : Touch) → Contains touches t → IsTouch from to versions t
  pub all : (t : Touch) → IsTouch from to versions t → Contains touches t

-- Two are of one commit and row.
abbrev pub AreAlike : Touch → Touch → Type 0
AreAlike t u = (t.commit ≡ u.commit) × (t.row ≡ u.row)

-- One does not come after another, by commit, row and place.
abbrev pub NotAfter : Touch → Touch → Type 0
NotAfter t u = (t.commit < u.commit) ⊎ ((t.commit ≡ u.commit) × ((t.row < u.row) ⊎ ((t.row ≡ u.row) × (t.place ≤ u.place))))

-- They stand in order.
abbrev pub AreInOrder : List Touch → Type 0
AreInOrder touches = (i j : ℕ) (t u : Touch) → i < j → slice_get touches i ≡ Some t → slice_get touches j ≡ Some u → NotAfter t u

-- Of the versions so many come first that begin at most at a number, and the others begin above it.
pub record SplitsBegins (n : ℕ) (versions : List Version) (at : ℕ) : Type 0 where
  pub low : (i : ℕ) (v : Version) → i < at → slice_get versions i ≡ Some v → v.begin ≤ n
  pub high : (i : ℕ) (v : Version) → at ≤ i → slice_get versions i ≡ Some v → n < v.begin
