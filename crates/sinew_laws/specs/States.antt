-- What follows of the rules of a state, and of what a load does to one.
use Rattle.std.specs.Prelude.{◌≡◌, ℕ, ◌+◌, ◌<◌, ◌≤◌, List, [], ◌∷◌, ◌++◌, true, Some, length, slice_get}
use Rattle.std.specs.List.{position}
use Rattle.std.specs.Option.{option_map_or}
use Rattle.doc_values.specs.Doc.{Fields}
use Rattle.doc_values.specs.Weight.{weight_of}
use Rattle.doc_values.specs.declared.kind.Kind.{Kind}
use Rattle.doc_flatten.specs.Documents.{IsWithinLimits}
use Rattle.commit_core.specs.State.{Row, Collection, State, IsCollection, IsState, collection_at, documents_at}
use Rattle.commit_core.specs.Write.{loads, same_pair, with_fields, with_documents}
use Rattle.commit_core.specs.Plan.{write, plan_of}
use Rattle.commit_core.specs.Replies.{told_of, state_after}

-- A state that keeps the rules is a map: each collection is the one that its name finds.
abbrev pub IsAMap : Type 0
IsAMap = (state : State) (i : ℕ) (collection : Collection) → IsState state → slice_get state i ≡ Some collection → collection_at collection.name state ≡ Some collection

-- In a state that keeps the rules there are at most 256 collections, and in each at most 65,536 pairs and 2,097,152 versions.
abbrev pub KeepsItsLimits : Type 0
KeepsItsLimits = (state : State) (i : ℕ) (collection : Collection) → IsState state → slice_get state i ≡ Some collection →
    (length state ≤ 256) × (length collection.pairs ≤ 65536) × (collection.versions ≤ 2097152)

-- However many documents are put behind the rows of a collection that keeps the rules, the numbers of its rows ascend.
abbrev pub KeepsRowsInOrder : Type 0
KeepsRowsInOrder = (documents : List Fields) (collection : Collection) (i j : ℕ) (a b : Row) → IsCollection collection → i < j →
    slice_get (with_documents documents collection).rows i ≡ Some a → slice_get (with_documents documents collection).rows j ≡ Some b → a.number < b.number

-- In a collection that keeps the rules each pair of name and kind is found at its place, and at no other one.
abbrev pub HasOnePlaceForAPair : Type 0
HasOnePlaceForAPair = (collection : Collection) (i : ℕ) (pair : List ℕ × Kind) → IsCollection collection → slice_get collection.pairs i ≡ Some pair →
    position (same_pair pair) collection.pairs ≡ Some i

-- What a question finds in a state that keeps the rules is a document within its limits, and weighs at most 16,777,216 bytes.
abbrev pub WhatStandsIsADocument : Type 0
WhatStandsIsADocument = (state : State) (name : List ℕ) (i : ℕ) (document : Fields) → IsState state → slice_get (documents_at name state) i ≡ Some document →
    IsWithinLimits document × (weight_of document ≤ 16777216)

-- In a collection that keeps the rules no document has a pair that is new to it.
abbrev pub HasPairsOfAllFields : Type 0
HasPairsOfAllFields = (collection : Collection) (i : ℕ) (row : Row) → IsCollection collection → slice_get collection.rows i ≡ Some row →
    with_fields collection.pairs row.document ≡ collection.pairs

-- In the state after any commits the number of a row is at least its place among the rows of its collection, and below the number of the next row; and this is at most that of the versions written.
abbrev pub NumbersRowsBelowTheNext : Type 0
NumbersRowsBelowTheNext = (texts : List (List ℕ)) (name : List ℕ) (collection : Collection) → collection_at name (state_after texts) ≡ Some collection →
    ((i : ℕ) (row : Row) → slice_get collection.rows i ≡ Some row → (i ≤ row.number) × (row.number < collection.next_row)) × (collection.next_row ≤ collection.versions)

-- The rows of a collection; none where it is unknown.
abbrev pub rows_at : List ℕ → State → List Row
rows_at name state = option_map_or (λ collection. collection.rows) (collection_at name state) []

-- The number of the next row of a collection; 0 where it is unknown.
abbrev pub next_at : List ℕ → State → ℕ
next_at name state = option_map_or (λ collection. collection.next_row) (collection_at name state) 0

-- A collection has rows for documents behind those that it had.
pub record HasRowsBehind (name : List ℕ) (documents : List Fields) (before after : State) : Type 0 where
  -- each row stays
  pub kept : (i : ℕ) (row : Row) → slice_get (rows_at name before) i ≡ Some row → slice_get (rows_at name after) i ≡ Some row
  -- each document has its row, in their order and numbered on
  pub added : (k : ℕ) (document : Fields) → slice_get documents k ≡ Some document →
      slice_get (rows_at name after) (length (rows_at name before) + k) ≡ Some (record { number = next_at name before + k; document = document })
  -- and there is no other row
  pub all : length (rows_at name after) ≡ length (rows_at name before) + length documents
  -- the next number is the one behind theirs
  pub next : next_at name after ≡ next_at name before + length documents

-- A load that is accepted after any commits has its documents in rows behind those of its collection, numbered on.
abbrev pub NumbersRowsOn : Type 0
NumbersRowsOn = (texts : List (List ℕ)) (text name : List ℕ) (documents : List Fields) → plan_of text ≡ write (loads name documents) → (told_of text (state_after texts)).accepted ≡ true →
    HasRowsBehind name documents (state_after texts) (state_after (texts ++ text ∷ []))
