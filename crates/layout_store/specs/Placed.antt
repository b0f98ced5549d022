-- Where values stand: each in the record or in the cell, and for a clean attribute at home. Documents are not spoken of.
use Rattle.std.specs.Prelude.{◌≡◌, ℕ, ◌<◌, ◌≤◌, List, length, Option, Some, None, IfSome, unwrap_or, slice_get}
use Rattle.doc_values.specs.Value.{kind_of, IsStorable}
use Rattle.doc_values.specs.declared.value.Value.{Value}
use Rattle.attr_catalog.specs.Attribute.{Attribute}
use Rattle.attr_catalog.specs.declared.home.Home.{Home}
use Rattle.attr_catalog.specs.declared.home.Home.TheVariants as home
use Rattle.document_records.specs.StoredDocument.{pairs_of}
use Rattle.layout_store.specs.Storage.{Storage, in_record, in_cell, held}
use Rattle.layout_store.specs.Documents.{counts_of, AreDocuments}

-- Of two sides only that of a home may have a value.
abbrev pub IsAtHome : Home → Option (List ℕ) → Option Value → Type 0
IsAtHome home.Reservoir recorded celled = celled ≡ None
IsAtHome home.Column recorded celled = recorded ≡ None

-- What a version holds of an attribute stands at this home.
abbrev pub IsHome : Home → Storage → ℕ → ℕ → Type 0
IsHome to s version id = IsAtHome to (in_record s version id) (in_cell s version id)

-- Below which version all values of an attribute stand at home: all, while it is clean.
abbrev pub clean_below : ℕ → Attribute → ℕ
clean_below versions a = unwrap_or a.mark versions

-- The value of a cell is one that a document may hold, of its attribute's kind.
pub record IsCelled (attributes : List Attribute) (id : ℕ) (value : Value) : Type 0 where
  pub storable : IsStorable value
  pub attribute : Attribute
  pub there : slice_get attributes id ≡ Some attribute
  pub alike : kind_of value ≡ attribute.kind

-- Each version has its record; no value stands twice; below the mark values stand at home; a mark is at most the number of versions; and cells hold values of their kind.
pub record ArePlaced (s : Storage) : Type 0 where
  pub recorded : length s.records ≡ length s.history.versions
  pub apart : (version id : ℕ) (bytes : List ℕ) → in_record s version id ≡ Some bytes → in_cell s version id ≡ None
  pub home : (version id : ℕ) (a : Attribute) → slice_get s.attributes id ≡ Some a → version < clean_below (length s.history.versions) a → IsHome a.home s version id
  pub marks : (id : ℕ) (a : Attribute) → slice_get s.attributes id ≡ Some a → IfSome a.mark (λ clean_to. clean_to ≤ length s.history.versions)
  pub celled : (version id : ℕ) (value : Value) → in_cell s version id ≡ Some value → IsCelled s.attributes id value

-- What every layout keeps, beside the order of its versions.
pub record IsLayout (s : Storage) : Type 0 where
  pub placed : ArePlaced s
  pub documents : AreDocuments (pairs_of s.attributes) (counts_of s.attributes) s.history (held s)
