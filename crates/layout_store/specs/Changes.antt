-- What each call leaves of the storage.
use Rattle.std.specs.Prelude.{◌≡◌, ℕ, ◌==◌, Bool, List, [], ◌∷◌, ◌++◌, length, Some, IfSome, is_some, slice_get, if◌then◌else◌}
use Rattle.std.specs.Option.{option_map_or}
use Rattle.doc_values.specs.Doc.{Fields}
use Rattle.doc_values.specs.declared.attr_id.AttrId.{AttrId}
use Rattle.reservoir_record.specs.declared.fields.Field.{Field}
use Rattle.attr_catalog.specs.Attribute.{Attribute, raised, lowered, dirtied, advanced}
use Rattle.attr_catalog.specs.Catalog.{changed}
use Rattle.attr_catalog.specs.declared.home.Home.{Home}
use Rattle.attr_catalog.specs.declared.home.Home.TheVariants as home
use Rattle.row_versions.specs.History.{begun, ended}
use Rattle.row_versions.specs.History as history
use Rattle.document_records.specs.StoredDocument.{pairs_of}
use Rattle.layout_store.specs.Storage.{Storage, in_record, in_cell, held}
use Rattle.layout_store.specs.Documents.{document_at}
use Rattle.layout_store.specs.Numbering.{with_fields, HasGrown}
use Rattle.layout_store.specs.Placed.{IsHome}

-- Each attribute is changed, by its number.
pub record AreChanged (change : ℕ → Attribute → Attribute) (before after : List Attribute) : Type 0 where
  pub many : length after ≡ length before
  pub each : (id : ℕ) (a : Attribute) → slice_get before id ≡ Some a → slice_get after id ≡ Some (change id a)

-- An attribute of which one version more is clean, where its mark stands at this version.
abbrev pub stepped : ℕ → Attribute → Attribute
stepped version a = option_map_or (λ clean_to. if clean_to == version then advanced a else a) a.mark a

-- What a version holds of an attribute stands at home alone. All is held as before; every other value stands where it did; and where the mark stood at the version it is past it.
pub record HasStepped (id : AttrId) (version : ℕ) (before after : Storage) : Type 0 where
  pub attributes : after.attributes ≡ changed (stepped version) id before.attributes
  pub history : after.history ≡ before.history
  pub held : (v i : ℕ) → held after v i ≡ held before v i
  pub there : IfSome (slice_get before.attributes id.0) (λ a. IsHome a.home after version id.0)
  pub records : (v i : ℕ) → (v ≡ version → i ≡ id.0 → ⊥) → in_record after v i ≡ in_record before v i
  pub cells : (v i : ℕ) → (v ≡ version → i ≡ id.0 → ⊥) → in_cell after v i ≡ in_cell before v i

-- The attribute, counted once less where a test holds.
abbrev pub lowered_if : Bool → Attribute → Attribute
lowered_if test a = if test then lowered a else a

-- A version has its end, and the attributes that it holds count one document fewer. Values stand where they did.
pub record HasEnded (version commit : ℕ) (before after : Storage) : Type 0 where
  pub attributes : AreChanged (λ id. lowered_if (is_some (held before version id))) before.attributes after.attributes
  pub history : after.history ≡ record { versions = history.changed (ended commit) version before.history.versions; horizon = before.history.horizon }
  pub records : after.records ≡ before.records
  pub cells : after.cells ≡ before.cells

-- An attribute that a new version holds: one document more, and dirty from that version on where it is a column.
abbrev pub written_to : Home → ℕ → Attribute → Attribute
written_to home.Reservoir version a = raised a
written_to home.Column version a = dirtied version (raised a)

-- The attribute, with a new version that holds it where a test holds.
abbrev pub written_if : ℕ → Bool → Attribute → Attribute
written_if version test a = if test then written_to a.home version a else a

-- A version of a row stands behind the others, its document whole in its record. Its attributes count one document more; new ones stand behind the others.
pub record HasAppended (row commit : ℕ) (document : Fields) (before after : Storage) : Type 0 where
  pub fields : List Field
  pub grown : List Attribute
  pub longer : HasGrown before.attributes grown
  pub pairs : pairs_of grown ≡ with_fields (pairs_of before.attributes) document
  pub stands : after.records ≡ before.records ++ fields ∷ []
  pub history : after.history ≡ record { versions = before.history.versions ++ begun row commit ∷ []; horizon = before.history.horizon }
  pub cells : after.cells ≡ before.cells
  pub attributes : AreChanged (λ id. written_if (length before.history.versions) (is_some (in_record after (length before.history.versions) id))) grown after.attributes
  pub whole : document_at after (length before.history.versions) ≡ document
