-- What a write does to a state.
use Rattle.std.specs.Prelude.{ℕ, List, [], ◌∷◌, Bool, ◌||◌, false, nat_lt, length, Option, Some, None, if◌then◌else◌}
use Rattle.doc_values.specs.Doc.{Fields}
pub use Rattle.document_records.specs.Pairs.{same_pair, pairs_with, with_fields}
pub use Rattle.write_plans.specs.Collection.{rows_from, new_collection, with_documents, is_beyond}
use Rattle.commit_core.specs.State.{Collection, State, is_named, collection_at, most_collections}

-- A write: a load of documents into a collection.
pub data Write : Type 0 where
  loads : List ℕ → List Fields → Write

-- What becomes of a write: it is accepted, with the state after it and a number of rows; or a number leaves its range, which no load does; or the store is full.
pub data Effect : Type 0 where
  accepted : State → ℕ → Effect
  range : Effect
  full : Effect

-- The state with documents put into a collection, which stands behind the others if it is new.
abbrev pub with_load : List ℕ → List Fields → State → State
with_load name documents [] = with_documents documents (new_collection name) ∷ []
with_load name documents (collection ∷ more) =
    if is_named name collection then with_documents documents collection ∷ more else collection ∷ with_load name documents more

-- There is a collection, and it has more than it may have.
abbrev pub is_there_beyond : Option Collection → Bool
is_there_beyond None = false
is_there_beyond (Some collection) = is_beyond collection

-- The state after a load into the named collection has more collections than it may have, or that collection has more than it may have.
abbrev pub is_full : List ℕ → State → Bool
is_full name state = nat_lt most_collections (length state) || is_there_beyond (collection_at name state)

-- The effect of a load that would leave this state: it is accepted unless the state would hold too much.
abbrev pub load_effect : List ℕ → List Fields → State → Effect
load_effect name documents after = if is_full name after then full else accepted after (length documents)

-- The effect of a write. An accepted load answers how many documents it has.
abbrev pub effect_of : Write → State → Effect
effect_of (loads name documents) state = load_effect name documents (with_load name documents state)
