-- What the laws of this crate say: a record of the fields of a document stands for it, and has the same values.
use Rattle.std.specs.Prelude.{◌≡◌, ℕ, eqb, List, Some, length}
use Rattle.std.specs.List.{AllZip, IsDistinct}
use Rattle.std.specs.List.Sorted.{IsPermutation}
use Rattle.doc_values.specs.Doc.{Fields, IsDocument, value_at}
use Rattle.doc_values.specs.Weight.{weight_of}
use Rattle.doc_values.specs.Value.{kind_of}
use Rattle.doc_values.specs.declared.kind.Kind.{Kind}
use Rattle.doc_values.specs.declared.value.Value.{Value}
use Rattle.reservoir_record.specs.declared.fields.Field.{Field}
use Rattle.reservoir_record.specs.Spelling.{numbers, values}
use Rattle.attr_catalog.specs.Attribute.{Attribute}
use Rattle.attr_catalog.specs.Catalog.{id_of, kinds_of, IsOnce}
use Rattle.document_records.specs.ReadBack.{value_of_kind, value_under, CanBeRead}
use Rattle.document_records.specs.StoredDocument.{Pairs, pairs_of, document_stored, IsFieldOf, IsKept}

-- The fields of a record can be read at each kind of a name, and what they have under it is what their document has there: of whichever kind, and of one kind, where a value is found exactly if the document has it and it is of that kind.
pub record AreOfDocument (attributes : List Attribute) (fields : List Field) (name : List ℕ) : Type 0 where
  pub readable : CanBeRead (kinds_of name attributes) fields
  pub found : value_under (kinds_of name attributes) fields ≡ value_at name (document_stored (pairs_of attributes) fields)
  pub only : (of : Kind) (v : Value) → value_of_kind of (id_of name of attributes) fields ≡ Some v → value_at name (document_stored (pairs_of attributes) fields) ≡ Some v
  pub alike : (of : Kind) (v : Value) → value_of_kind of (id_of name of attributes) fields ≡ Some v → kind_of v ≡ of
  pub each : (v : Value) → value_at name (document_stored (pairs_of attributes) fields) ≡ Some v → value_of_kind (kind_of v) (id_of name (kind_of v) attributes) fields ≡ Some v

-- That holds of each record that is kept, where no pair has two numbers.
abbrev pub RecordsAreDocuments : Type 0
RecordsAreDocuments = (attributes : List Attribute) (fields : List Field) (name : List ℕ) → IsOnce attributes → IsKept (pairs_of attributes) fields → AreOfDocument attributes fields name

-- The fields of a record keep a document: they stand for it, each is held, each number stands once, and their values weigh what it weighs.
pub record KeepDocument (pairs : Pairs) (document : Fields) (fields : List Field) : Type 0 where
  pub stands : document_stored pairs fields ≡ document
  pub kept : IsKept pairs fields
  pub once : IsDistinct eqb (numbers fields)
  pub weighs : length (values fields) ≡ weight_of document

-- The fields that are made of those of a document, one for each, keep it in whichever order.
abbrev pub DocumentsAreKept : Type 0
DocumentsAreKept = (pairs : Pairs) (document : Fields) (made fields : List Field) → IsDocument document → AllZip (IsFieldOf pairs) document made → IsPermutation made fields → KeepDocument pairs document fields
