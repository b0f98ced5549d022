-- What is held: the document of each version, its limits, and how many versions hold an attribute. Sides are not spoken of.
use Rattle.std.specs.Prelude.{◌≡◌, ℕ, zero, suc, ◌+◌, ◌<◌, ◌≤◌, Bool, true, false, not, ◌&&◌, List, [], ◌∷◌, ◌++◌, length, map, Option, Some, None, is_some, slice_get, if◌then◌else◌}
use Rattle.std.specs.Option.{option_map_or}
use Rattle.doc_values.specs.Doc.{Fields, IsDocument}
use Rattle.reservoir_record.specs.declared.fields.Field.{Field}
use Rattle.reservoir_record.specs.Spelling.{values}
use Rattle.attr_catalog.specs.Attribute.{Attribute}
use Rattle.row_versions.specs.declared.version.Version.{Version}
use Rattle.row_versions.specs.History.{History}
use Rattle.document_records.specs.Limits.{most_weight}
use Rattle.document_records.specs.StoredDocument.{Pairs, pairs_of, document_stored, IsKept}
use Rattle.layout_store.specs.Storage.{Storage, held}

-- How many fields a document may have.
abbrev pub most_fields : ℕ
most_fields = 4096

-- The field of a number, if something is held under it.
abbrev pub field_if : ℕ → Option (List ℕ) → List Field
field_if id None = []
field_if id (Some bytes) = record { id = id; bytes = bytes } ∷ []

-- The fields of the numbers below a bound, in their order, of what is held under each.
abbrev pub fields_below : (ℕ → Option (List ℕ)) → ℕ → List Field
fields_below under zero = []
fields_below under (suc id) = fields_below under id ++ field_if id (under id)

-- The fields of all numbers that have a pair.
abbrev pub fields_of : Pairs → (ℕ → Option (List ℕ)) → List Field
fields_of pairs under = fields_below under (length pairs)

-- The document that what is held stands for.
abbrev pub document_of : Pairs → (ℕ → Option (List ℕ)) → Fields
document_of pairs under = document_stored pairs (fields_of pairs under)

-- The document of a version.
abbrev pub document_at : Storage → ℕ → Fields
document_at s version = document_of (pairs_of s.attributes) (held s version)

-- Whether a version is there and has no end.
abbrev pub is_endless : List Version → ℕ → Bool
is_endless versions version = option_map_or (λ v. not (is_some v.end)) (slice_get versions version) false

-- How many numbers below a bound meet a test.
abbrev pub count_below : (ℕ → Bool) → ℕ → ℕ
count_below test zero = 0
count_below test (suc n) = (if test n then 1 else 0) + count_below test n

-- How many versions without an end hold an attribute.
abbrev pub holders : List Version → (ℕ → ℕ → Option (List ℕ)) → ℕ → ℕ
holders versions under id = count_below (λ v. is_endless versions v && is_some (under v id)) (length versions)

-- How many documents each attribute counts.
abbrev pub counts_of : List Attribute → List ℕ
counts_of attributes = map (λ a. a.count) attributes

-- What versions hold of the pairs are documents within their limits; an emptied version holds nothing; and each count is exact.
pub record AreDocuments (pairs : Pairs) (counts : List ℕ) (history : History) (under : ℕ → ℕ → Option (List ℕ)) : Type 0 where
  pub known : (version id : ℕ) (bytes : List ℕ) → under version id ≡ Some bytes → (version < length history.versions) × (id < length pairs)
  pub kept : (version : ℕ) → IsKept pairs (fields_of pairs (under version))
  pub documents : (version : ℕ) → IsDocument (document_of pairs (under version))
  pub few : (version : ℕ) → length (fields_of pairs (under version)) ≤ most_fields
  pub light : (version : ℕ) → length (values (fields_of pairs (under version))) ≤ most_weight
  pub emptied : (version : ℕ) (v : Version) → slice_get history.versions version ≡ Some v → v.emptied ≡ true → (id : ℕ) → under version id ≡ None
  pub counted : (id count : ℕ) → slice_get counts id ≡ Some count → count ≡ holders history.versions under id
