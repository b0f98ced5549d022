-- How versions are kept: each with a link to the one before it of its row, the last one of each row, and those that ended, in the order of their ends.
use Rattle.std.specs.Prelude.{◌≡◌, ◌≢◌, ℕ, ◌+◌, ◌<◌, ◌≤◌, List, [], ◌∷◌, ◌++◌, length, Option, Some, None, is_some, slice_get, slice_set, take, ◌-◌, if◌then◌else◌, Bool, false, nat_lt}
use Rattle.row_versions.specs.declared.version.Version.{Version}
use Rattle.row_versions.specs.Order.{KeepsOrder}

-- Versions in the order in which they were written, each with the place of the one before it of its row.
pub record Linked : Type 0 where
  pub versions : List Version
  pub links : List (Option ℕ)

-- The first are the second with one version behind it.
pub record HasOneBehind (all front : Linked) : Type 0 where
  pub version : Version
  pub link : Option ℕ
  pub versions : all.versions ≡ front.versions ++ version ∷ []
  pub links : all.links ≡ front.links ++ link ∷ []

-- The places from one to another have no version of a row.
abbrev pub AreOther : ℕ → List Version → ℕ → ℕ → Type 0
AreOther row versions low high = (k : ℕ) (v : Version) → low ≤ k → k < high → slice_get versions k ≡ Some v → v.row ≢ row

-- A place has the last version of a row among those below a bound.
pub record IsPlaceOfLast (row : ℕ) (versions : List Version) (bound place : ℕ) : Type 0 where
  pub within : place < bound
  pub version : Version
  pub there : slice_get versions place ≡ Some version
  pub named : version.row ≡ row
  pub later : AreOther row versions (place + 1) bound

-- The last version of a row among those below a bound stands at a place, or there is none.
abbrev pub IsLast : ℕ → List Version → ℕ → Option ℕ → Type 0
IsLast row versions bound None = AreOther row versions 0 bound
IsLast row versions bound (Some place) = IsPlaceOfLast row versions bound place

-- A place has a version of a row, and all later ones of the row begin after so many commits.
pub record StartsAt (row n : ℕ) (versions : List Version) (place : ℕ) : Type 0 where
  pub version : Version
  pub there : slice_get versions place ≡ Some version
  pub named : version.row ≡ row
  pub above : (k : ℕ) (w : Version) → place < k → slice_get versions k ≡ Some w → w.row ≡ row → n < w.begin

-- Each link leads to the version before of the row.
pub record AreLinked (versions : List Version) (links : List (Option ℕ)) : Type 0 where
  pub many : length links ≡ length versions
  pub each : (i : ℕ) (v : Version) (l : Option ℕ) → slice_get versions i ≡ Some v → slice_get links i ≡ Some l → IsLast v.row versions i l

-- Each row has the place of its last version, and rows come in the order of their first versions.
pub record AreNewest (versions : List Version) (places : List ℕ) : Type 0 where
  pub below : (i : ℕ) (v : Version) → slice_get versions i ≡ Some v → v.row < length places
  pub each : (row place : ℕ) → slice_get places row ≡ Some place → IsPlaceOfLast row versions (length versions) place
  pub early : (i : ℕ) (v : Version) → slice_get versions i ≡ Some v → v.row ≤ i
  pub next : (i k : ℕ) (v w : Version) → slice_get versions i ≡ Some v → AreOther v.row versions 0 i → k < i → slice_get versions k ≡ Some w → w.row < v.row

-- A place has a version that has an end.
pub record HasEnd (versions : List Version) (place end : ℕ) : Type 0 where
  pub version : Version
  pub there : slice_get versions place ≡ Some version
  pub at : version.end ≡ Some end

-- Whether there is an end, which comes before a commit.
abbrev pub ends_before : ℕ → Option ℕ → Bool
ends_before commit None = false
ends_before commit (Some end) = nat_lt end commit

-- One for an end, and nothing for none.
abbrev pub one_of : Option ℕ → ℕ
one_of None = 0
one_of (Some end) = 1

-- How many versions have an end.
abbrev pub count_ended : List Version → ℕ
count_ended [] = 0
count_ended (v ∷ vs) = one_of v.end + count_ended vs

-- The places are those of the versions that ended, each once, by their ends.
pub record AreEnded (versions : List Version) (places : List ℕ) : Type 0 where
  pub each : (i place : ℕ) → slice_get places i ≡ Some place → (end : ℕ) × HasEnd versions place end
  pub all : (place : ℕ) (v : Version) (end : ℕ) → slice_get versions place ≡ Some v → v.end ≡ Some end → (i : ℕ) × (slice_get places i ≡ Some place)
  pub once : (i j place : ℕ) → slice_get places i ≡ Some place → slice_get places j ≡ Some place → i ≡ j
  pub rise : (i j p q e f : ℕ) → i < j → slice_get places i ≡ Some p → slice_get places j ≡ Some q → HasEnd versions p e → HasEnd versions q f → e ≤ f
  pub counted : count_ended versions ≡ length places

-- Of the places of versions that ended, so many come first whose ends are at most a number, and the others' ends are above it.
pub record SplitsEnds (n : ℕ) (versions : List Version) (places : List ℕ) (at : ℕ) : Type 0 where
  pub within : at ≤ length places
  pub low : (i place end : ℕ) → i < at → slice_get places i ≡ Some place → HasEnd versions place end → end ≤ n
  pub high : (i place end : ℕ) → at ≤ i → slice_get places i ≡ Some place → HasEnd versions place end → n < end

-- The places of the last versions of rows with that of one row, which may be the next row.
abbrev pub noted : ℕ → ℕ → List ℕ → List ℕ
noted row place lasts = if is_some (slice_get lasts row) then slice_set lasts row place else lasts ++ place ∷ []

-- The places of the last versions of rows when the last version of a row goes: the one before it is then the last, or the row goes, which is the last row.
abbrev pub forgotten : ℕ → Option ℕ → List ℕ → List ℕ
forgotten row (Some before) lasts = slice_set lasts row before
forgotten row None lasts = take (length lasts - 1) lasts

-- All of it fits together, and there is room for the end of each version.
pub record BelongTogether (versions : List Version) (links : List (Option ℕ)) (lasts ended : List ℕ) (horizon room : ℕ) : Type 0 where
  pub kept : KeepsOrder (record { versions = versions; horizon = horizon })
  pub linked : AreLinked versions links
  pub newest : AreNewest versions lasts
  pub ends : AreEnded versions ended
  pub fits : length versions ≤ room
