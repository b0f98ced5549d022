-- Which documents have their arrays on one line.
use Rattle.std.specs.Prelude.{List, Option, All, IfSome}
use Rattle.doc_values.specs.Value.{HasOneLineArray}
use Rattle.doc_values.specs.Doc.{Fields}

-- The text of each array in the documents on the sides of a tuple stays on its line.
abbrev pub HaveOneLineArrays : List (Option Fields) → Type 0
HaveOneLineArrays sides = All (λ side. IfSome side (All (λ field. HasOneLineArray field.1))) sides
