-- The collections as they are stored, and when a store is true to its commits.
use Rattle.std.specs.Prelude.{◌≡◌, ℕ, ◌+◌, ◌≤◌, List, [], Bool, length, map, take, Option, Some, None, unwrap_or, slice_get}
use Rattle.std.specs.FinMap as map
use Rattle.std.specs.List.{find}
use Rattle.std.specs.Str.{bytes_eq}
use Rattle.layout_store.specs.Storage.{Storage}
use Rattle.layout_store.specs.Shows.{ShowsTheSame}
use Rattle.shown_rows.specs.Rows.{rows_at}
use Rattle.write_plans.specs.Becomes.{collection_in, IsSettled, HasBecome, StandsAsBefore}
use Rattle.commit_core.specs.State.{Row, Collection, State, collection_at}
use Rattle.commit_core.specs.Replies.{state_after}

-- A collection as it is stored.
pub record Stored : Type 0 where
  pub name : List ℕ
  pub storage : Storage

-- A collection into which nothing was ever put.
abbrev pub nothing_stored : List ℕ → Stored
nothing_stored name = record { name = name; storage = record { attributes = []; history = record { versions = []; horizon = 0 }; records = []; cells = map.empty } }

-- The collection that it is after so many commits.
abbrev pub stored_in : ℕ → Stored → Collection
stored_in n t = collection_in t.name t.storage n

-- What is stored has this name.
abbrev pub is_table : List ℕ → Stored → Bool
is_table name t = bytes_eq name t.name

-- What is stored under a name, if there is something.
abbrev pub table_at : List ℕ → List Stored → Option Stored
table_at name tables = find (is_table name) tables

-- The rows of a collection, if there is one.
abbrev pub rows_in : Option Collection → List Row
rows_in None = []
rows_in (Some collection) = collection.rows

-- The rows of the collection with a name; none where it is unknown.
abbrev pub rows_named : List ℕ → State → List Row
rows_named name state = rows_in (collection_at name state)

-- What is stored is true to commits: nothing is later than they are, and at each number of commits from its horizon on it shows the rows of the state after so many of them.
pub record IsTrueTo (texts : List (List ℕ)) (t : Stored) : Type 0 where
  pub settled : IsSettled (length texts) t.storage
  pub always : (n : ℕ) → t.storage.history.horizon ≤ n → n ≤ length texts → rows_at t.storage n ≡ rows_named t.name (state_after (take n texts))

-- A store is true to commits: its collections are now those of the state after them, and each is true to them at every number.
pub record AreTrueTo (texts : List (List ℕ)) (tables : List Stored) : Type 0 where
  pub newest : map (stored_in (length texts)) tables ≡ state_after texts
  pub each : (place : ℕ) (t : Stored) → slice_get tables place ≡ Some t → IsTrueTo texts t

-- What is stored has changed by the commit that follows on so many.
pub record HasChanged (change : Collection → Collection) (now : ℕ) (before after : Stored) : Type 0 where
  pub named : after.name ≡ before.name
  pub storage : HasBecome change now before.storage after.storage

-- It is true to one commit more, and as it was at each number before.
pub record HasGone (now : ℕ) (before after : Stored) : Type 0 where
  pub named : after.name ≡ before.name
  pub settled : IsSettled (now + 1) after.storage
  pub horizon : after.storage.history.horizon ≡ before.storage.history.horizon
  pub earlier : (n : ℕ) → n ≤ now → rows_at after.storage n ≡ rows_at before.storage n

-- What stood at a place, or nothing of a name.
abbrev pub stood : List Stored → ℕ → List ℕ → Stored
stood tables place name = unwrap_or (slice_get tables place) (nothing_stored name)

-- By the commit that follows on so many the collections are those of a state, and each was at each number before as it was.
pub record HaveBecome (state : State) (now : ℕ) (before after : List Stored) : Type 0 where
  pub newest : map (stored_in (now + 1)) after ≡ state
  pub longer : length before ≤ length after
  pub each : (place : ℕ) (t : Stored) → slice_get after place ≡ Some t → HasGone now (stood before place t.name) t

-- What is stored is as it was, and shows what it did.
pub record IsAsBefore (before after : Stored) : Type 0 where
  pub named : after.name ≡ before.name
  pub storage : StandsAsBefore before.storage after.storage
  pub shows : ShowsTheSame before.storage after.storage

-- The same collections are stored, and each is as it was.
pub record AreAsBefore (before after : List Stored) : Type 0 where
  pub many : length after ≡ length before
  pub each : (place : ℕ) (t u : Stored) → slice_get before place ≡ Some t → slice_get after place ≡ Some u → IsAsBefore t u

-- Nothing that is stored is later than so many commits.
abbrev pub AreSettled : ℕ → List Stored → Type 0
AreSettled now tables = (place : ℕ) (t : Stored) → slice_get tables place ≡ Some t → IsSettled now t.storage
