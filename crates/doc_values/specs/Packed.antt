-- A document in one body: a small cell for each field, which points to its texts in one text.
use Rattle.std.specs.Prelude.{◌≡◌, ℕ, ◌≤◌, List, Result, Ok, Err, All, map, length, slice_range, slice_set}
use Rattle.std.specs.List.{insert}
use Rattle.doc_values.specs.declared.value.Value as value
use Rattle.doc_values.specs.declared.cell.Cell as cell
use Rattle.doc_values.specs.declared.field_cell.FieldCell.{FieldCell}
use Rattle.doc_values.specs.declared.doc_place.DocPlace.{DocPlace}
use Rattle.doc_values.specs.Doc.{Fields, IsDocument}
use Rattle.doc_values.specs.Spans.{text_at, IsSpan}

-- The value of a cell over the texts.
abbrev pub cell_in : List ℕ → cell.Cell → value.Value
cell_in texts (cell.TheVariants.Bool b) = value.TheVariants.Bool b
cell_in texts (cell.TheVariants.Number n) = value.TheVariants.Int n
cell_in texts (cell.TheVariants.Text span) = value.TheVariants.Text (text_at texts span)
cell_in texts (cell.TheVariants.Array span) = value.TheVariants.Array (text_at texts span)
cell_in texts cell.TheVariants.Object = value.TheVariants.Object

-- What a cell points to is there.
abbrev pub IsCellIn : List ℕ → cell.Cell → Type 0
IsCellIn texts (cell.TheVariants.Bool b) = Unit {0}
IsCellIn texts (cell.TheVariants.Number n) = Unit {0}
IsCellIn texts (cell.TheVariants.Text span) = IsSpan texts span
IsCellIn texts (cell.TheVariants.Array span) = IsSpan texts span
IsCellIn texts cell.TheVariants.Object = Unit {0}

-- The field over the texts.
abbrev pub field_in : List ℕ → FieldCell → List ℕ × value.Value
field_in texts f = (text_at texts f.name, cell_in texts f.value)

-- What a field points to is there.
abbrev pub IsFieldIn : List ℕ → FieldCell → Type 0
IsFieldIn texts f = IsSpan texts f.name × IsCellIn texts f.value

-- The fields over the texts.
abbrev pub fields_in : List ℕ → List FieldCell → Fields
fields_in texts cells = map (field_in texts) cells

-- What the fields point to is there, and they are a document.
pub record IsPacked (texts : List ℕ) (cells : List FieldCell) : Type 0 where
  pub placed : All (IsFieldIn texts) cells
  pub ordered : IsDocument (fields_in texts cells)

-- A list with an item at the place that a search answered: over the item found, or before the first that comes behind.
abbrev pub put_at : {X : Type 0} → List X → Result ℕ ℕ → X → List X
put_at xs (Ok place) x = slice_set xs place x
put_at xs (Err place) x = insert xs place x

-- The document at a place among documents behind one another.
abbrev pub document_in : List ℕ → List FieldCell → DocPlace → Fields
document_in texts cells place = fields_in (text_at texts place.texts) (slice_range cells place.first place.last)

-- There is a document at the place.
pub record IsPlaced (texts : List ℕ) (cells : List FieldCell) (place : DocPlace) : Type 0 where
  pub spanned : IsSpan texts place.texts
  pub ordered : place.first ≤ place.last
  pub within : place.last ≤ length cells
  pub packed : IsPacked (text_at texts place.texts) (slice_range cells place.first place.last)

-- Each range of a list is one of another list, with the same items.
abbrev pub KeepsRanges : {X : Type 0} → List X → List X → Type 0
KeepsRanges old new = (first last : ℕ) → first ≤ last → last ≤ length old → (last ≤ length new) × (slice_range new first last ≡ slice_range old first last)
