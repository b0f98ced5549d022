-- How the values of a column lie in it: a cell each, texts one behind another, and the numbers that need more than 64 bits by themselves.
use Rattle.std.specs.Prelude.{◌≡◌, ℕ, ◌<◌, ℤ, pos, List, Option, Some, None, length, slice_index_or}
use Rattle.doc_values.specs.declared.value.Value as value
use Rattle.doc_values.specs.Spans.{text_at, IsSpan}
use Rattle.row_columns.specs.declared.cell.Cell.{Cell}
use Rattle.row_columns.specs.declared.cell.Cell.TheVariants as cell

-- The values of a column, one for each row; none is NULL.
abbrev pub Values : Type 0
Values = List (Option value.Value)

-- The value of a cell over the texts and the wide numbers of its column.
abbrev pub cell_in : List ℕ → List ℤ → Cell → Option value.Value
cell_in texts wides cell.Null = None
cell_in texts wides (cell.Bool b) = Some (value.TheVariants.Bool b)
cell_in texts wides (cell.Number n) = Some (value.TheVariants.Int n)
cell_in texts wides (cell.Wide place) = Some (value.TheVariants.Int (slice_index_or wides place (pos 0)))
cell_in texts wides (cell.Text span) = Some (value.TheVariants.Text (text_at texts span))
cell_in texts wides (cell.Array span) = Some (value.TheVariants.Array (text_at texts span))
cell_in texts wides cell.Object = Some value.TheVariants.Object

-- What a cell points to is there.
abbrev pub IsCellIn : List ℕ → List ℤ → Cell → Type 0
IsCellIn texts wides cell.Null = Unit {0}
IsCellIn texts wides (cell.Bool b) = Unit {0}
IsCellIn texts wides (cell.Number n) = Unit {0}
IsCellIn texts wides (cell.Wide place) = place < length wides
IsCellIn texts wides (cell.Text span) = IsSpan texts span
IsCellIn texts wides (cell.Array span) = IsSpan texts span
IsCellIn texts wides cell.Object = Unit {0}

-- Each cell over texts and wide numbers is one over others, with the same value.
abbrev pub KeepsCells : List ℕ → List ℤ → List ℕ → List ℤ → Type 0
KeepsCells old old_wides new new_wides = (c : Cell) → IsCellIn old old_wides c → IsCellIn new new_wides c × (cell_in new new_wides c ≡ cell_in old old_wides c)
