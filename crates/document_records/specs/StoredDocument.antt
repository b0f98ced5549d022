-- The document that the fields of a record stand for.
use Rattle.std.specs.Prelude.{◌≡◌, ℕ, List, [], ◌∷◌, Some, All, MatchOption, map, fold, slice_get}
use Rattle.std.specs.Option.{option_map_or}
use Rattle.doc_values.specs.Doc.{Fields, value_at, with_field}
use Rattle.doc_values.specs.Value.{kind_of}
use Rattle.doc_values.specs.declared.kind.Kind.{Kind}
use Rattle.doc_values.specs.declared.value.Value.{Value}
use Rattle.reservoir_record.specs.declared.fields.Field.{Field}
use Rattle.attr_catalog.specs.Attribute.{Attribute}
pub use Rattle.document_records.specs.Pairs.{Pairs}
use Rattle.document_records.specs.StoredValue.{bytes_of, value_in, AreReadable}

-- The pairs of attributes, in the order of their numbers.
abbrev pub pairs_of : List Attribute → Pairs
pairs_of attributes = map (λ a. (a.name, a.kind)) attributes

-- A document with the value of a field put under the name that its number has; where its number has none, the document as it is.
abbrev pub with_stored : Pairs → Field → Fields → Fields
with_stored pairs field document = option_map_or (λ pair. with_field document pair.0 (value_in pair.1 field.bytes)) (slice_get pairs field.id) document

-- The document that the fields of a record stand for; of two under one name the first stands.
abbrev pub document_stored : Pairs → List Field → Fields
document_stored pairs [] = []
document_stored pairs (f ∷ fs) = with_stored pairs f (document_stored pairs fs)

-- The document with the values of fields put in, one after the other.
abbrev pub document_with : Pairs → Fields → List Field → Fields
document_with pairs document fields = fold (λ d f. with_stored pairs f d) document fields

-- A field of a record is that of a field of a document: its number has the pair of name and kind, and its bytes are those of the value, which can be read at the kind.
abbrev pub IsFieldOf : Pairs → List ℕ × Value → Field → Type 0
IsFieldOf pairs f x = (slice_get pairs x.id ≡ Some (f.0, kind_of f.1)) × (x.bytes ≡ bytes_of f.1) × AreReadable (kind_of f.1) (bytes_of f.1)

-- Bytes are what is stored for a pair of a document: they can be read at its kind, under that name stands what they are at that kind, and they are the bytes of it.
pub record IsStored (document : Fields) (bytes : List ℕ) (pair : List ℕ × Kind) : Type 0 where
  pub readable : AreReadable pair.1 bytes
  pub stands : value_at pair.0 document ≡ Some (value_in pair.1 bytes)
  pub written : bytes ≡ bytes_of (value_in pair.1 bytes)

-- A document holds a field: its number has a pair, for which the bytes are stored.
abbrev pub IsHeld : Pairs → Fields → Field → Type 0
IsHeld pairs document field = MatchOption (slice_get pairs field.id) ⊥ (IsStored document field.bytes)

-- The document that fields stand for holds each of them; so no name stands twice, where each pair has one number and each number stands once.
abbrev pub IsKept : Pairs → List Field → Type 0
IsKept pairs fields = All (IsHeld pairs (document_stored pairs fields)) fields
