-- The laws by which a document is a map, and only a map.
use Rattle.std.specs.Prelude.{◌≡◌, ◌≢◌, ℕ, List, Some, None}
use Rattle.doc_values.specs.declared.value.Value.{Value}
use Rattle.doc_values.specs.Value.{IsStorable}
use Rattle.doc_values.specs.Doc.{Fields, value_at, with_field, without_field, IsDocument}

-- A value that is put under a name is found there, and every other name keeps its value.
abbrev pub PutsAlone : Type 0
PutsAlone = (fields : Fields) (name : List ℕ) (value : Value) → (value_at name (with_field fields name value) ≡ Some value) × ((other : List ℕ) → other ≢ name → value_at other (with_field fields name value) ≡ value_at other fields)

-- A name that is removed is gone, and every other name keeps its value.
abbrev pub RemovesAlone : Type 0
RemovesAlone = (fields : Fields) (name : List ℕ) → IsDocument fields → (value_at name (without_field fields name) ≡ None) × ((other : List ℕ) → other ≢ name → value_at other (without_field fields name) ≡ value_at other fields)

-- Documents with the same value under every name are the same.
abbrev pub AreSameByNames : Type 0
AreSameByNames = (a b : Fields) → IsDocument a → IsDocument b → ((name : List ℕ) → value_at name a ≡ value_at name b) → a ≡ b

-- Both edits keep a document, and what a document holds is storable.
abbrev pub StaysDocument : Type 0
StaysDocument = (fields : Fields) (name : List ℕ) → IsDocument fields → ((value : Value) → IsStorable value → IsDocument (with_field fields name value)) × IsDocument (without_field fields name) × ((value : Value) → value_at name fields ≡ Some value → IsStorable value)
