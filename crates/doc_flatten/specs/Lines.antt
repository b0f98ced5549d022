-- Which documents are printed on one line.
use Rattle.std.specs.Prelude.{All}
use Rattle.doc_values.specs.Value.{HasOneLineArray}
use Rattle.doc_values.specs.Doc.{Fields}

-- The text of each array of the document has no byte below 32, so it stays on its line.
abbrev pub HasOneLineArrays : Fields → Type 0
HasOneLineArrays doc = All (λ field. HasOneLineArray field.1) doc
