-- What is left of the storage when a version that ended is given up, and what rows show after that.
use Rattle.std.specs.Prelude.{◌≡◌, ◌≢◌, ℕ, ◌≤◌, max, [], Some, None, slice_get, slice_set, option_and_then}
use Rattle.row_versions.specs.History.{given_up}
use Rattle.row_versions.specs.History as history
use Rattle.layout_store.specs.Storage.{Storage, in_cell}
use Rattle.layout_store.specs.Shows.{shown}

-- A version that ended has neither record nor cells any more, and the horizon is at least its end. All other versions keep theirs.
pub record HasEmptied (version : ℕ) (before after : Storage) : Type 0 where
  pub end : ℕ
  pub ended : option_and_then (λ v. v.end) (slice_get before.history.versions version) ≡ Some end
  pub attributes : after.attributes ≡ before.attributes
  pub history : after.history ≡ record { versions = history.changed given_up version before.history.versions; horizon = max before.history.horizon end }
  pub records : after.records ≡ slice_set before.records version []
  pub gone : (id : ℕ) → in_cell after version id ≡ None
  pub cells : (w id : ℕ) → w ≢ version → in_cell after w id ≡ in_cell before w id

-- All rows show what they did at every number from the horizon on.
abbrev pub ShowsFromHorizon : Storage → Storage → Type 0
ShowsFromHorizon before after = (n row : ℕ) → after.history.horizon ≤ n → shown after n row ≡ shown before n row
