-- What a survey has counted, and what one more piece adds to it.
use Rattle.std.specs.Prelude.{◌≡◌, ℕ, ◌+◌, ◌-◌, max, nat_le, List, [], map, filter, filter_map, length, Some, unwrap_or, slice_get}
use Rattle.std.specs.Option.{option_map_or}
use Rattle.doc_values.specs.Doc.{Fields}
use Rattle.doc_values.specs.declared.kind.Kind.{Kind}
use Rattle.doc_values.specs.declared.value.Value.{Value}
use Rattle.attr_catalog.specs.Attribute.{Attribute}
use Rattle.layout_store.specs.Storage.{Storage}
use Rattle.layout_store.specs.Shows.{shown}
use Rattle.layout_store.specs.Values.{value_wanted}
use Rattle.shown_rows.specs.Rows.{rows_below}
use Rattle.schema_analyser.specs.Tally.{Tallied, untallied, tallied}

-- How many rows were passed and how many documents they had, and what was counted of each attribute, by its number.
pub record Surveyed : Type 0 where
  pub rows : ℕ
  pub documents : ℕ
  pub tallies : List Tallied

-- What was counted of the attribute with a number.
abbrev pub tally_of : ℕ → List Tallied → Tallied
tally_of id tallies = unwrap_or (slice_get tallies id) untallied

-- The documents that the rows from one number to another show after so many commits.
abbrev pub documents_between : Storage → ℕ → ℕ → ℕ → List Fields
documents_between s n from to = map (λ row. row.document) (filter (λ row. nat_le from row.number) (rows_below (shown s n) to))

-- The values of a kind that documents have under a name.
abbrev pub values_in : List ℕ → Kind → List Fields → List Value
values_in name of documents = filter_map (value_wanted name (Some of)) documents

-- The values that documents have of the attribute with a number.
abbrev pub values_of : List Attribute → ℕ → List Fields → List Value
values_of attributes id documents = option_map_or (λ a. values_in a.name a.kind documents) (slice_get attributes id) []

-- The documents that some rows show after so many commits are counted: those of each attribute, and their values.
pub record HasTaken (s : Storage) (n from to : ℕ) (before after : Surveyed) : Type 0 where
  pub rows : after.rows ≡ before.rows + (to - from)
  pub documents : after.documents ≡ before.documents + length (documents_between s n from to)
  pub many : length after.tallies ≡ max (length before.tallies) (length s.attributes)
  pub tallies : (id : ℕ) → tally_of id after.tallies ≡ tallied (tally_of id before.tallies) (values_of s.attributes id (documents_between s n from to))
