-- How a document is numbered: its pairs that are new are appended to the catalog, and its fields are sorted by their numbers.
use Rattle.std.specs.Prelude.{◌≡◌, ℕ, ◌+◌, ◌≤◌, List, [], ◌∷◌, Some, All, length, map, take, drop, slice_get}
use Rattle.std.specs.Option.{option_map_or}
use Rattle.doc_values.specs.Doc.{Fields}
use Rattle.doc_values.specs.Value.{kind_of}
use Rattle.reservoir_record.specs.declared.fields.Field.{Field}
use Rattle.reservoir_record.specs.Spelling.{AreFields, values}
use Rattle.attr_catalog.specs.Attribute.{Attribute, fresh}
use Rattle.document_records.specs.Limits.{most_weight}
pub use Rattle.document_records.specs.Pairs.{pair_of, same_pair, pairs_with, with_fields}
use Rattle.document_records.specs.StoredValue.{bytes_of, AreReadable}
use Rattle.document_records.specs.StoredDocument.{Pairs, document_stored, IsKept}

-- The attribute is as a catalog begins one: no document holds it.
abbrev pub IsFresh : Attribute → Type 0
IsFresh a = a ≡ fresh a.name a.kind

-- The attributes stand as before, with others behind them that are as they begin.
pub record HasGrown (old new : List Attribute) : Type 0 where
  pub front : take (length old) new ≡ old
  pub begun : All IsFresh (drop (length old) new)
  pub longer : length old ≤ length new

-- Each field of a document, from a place on, has its entry: the number of its pair, and its place; and its bytes can be read.
abbrev pub HaveEntries : Pairs → ℕ → Fields → List (ℕ × ℕ) → Type 0
HaveEntries pairs place [] [] = Unit {0}
HaveEntries pairs place [] (e ∷ es) = ⊥
HaveEntries pairs place (f ∷ fs) [] = ⊥
HaveEntries pairs place (f ∷ fs) (e ∷ es) = (slice_get pairs e.0 ≡ Some (f.0, kind_of f.1)) × (e.1 ≡ place) × AreReadable (kind_of f.1) (bytes_of f.1) × HaveEntries pairs (place + 1) fs es

-- The field of a record for an entry of a document.
abbrev pub field_of : Fields → ℕ × ℕ → Field
field_of document entry = record { id = entry.0; bytes = option_map_or (λ field. bytes_of field.1) (slice_get document entry.1) [] }

-- The fields of a record for entries of a document.
abbrev pub fields_made : Fields → List (ℕ × ℕ) → List Field
fields_made document entries = map (field_of document) entries

-- The fields are a record of the document: they stand for it, each is held, one for each of its own, and they are within the bounds.
pub record IsRecordOf (pairs : Pairs) (document : Fields) (fields : List Field) : Type 0 where
  pub stands : document_stored pairs fields ≡ document
  pub kept : IsKept pairs fields
  pub lawful : AreFields fields
  pub light : length (values fields) ≤ most_weight
  pub many : length fields ≡ length document
