-- The answer to a question: what becomes of its rows, and their text.
use Rattle.std.specs.Prelude.{ℕ, List, [], ◌∷◌, ◌++◌, Bool, Option, Some, None, if◌then◌else◌, map, take, length, flat_map, codes, decimal, unwrap_or}
use Rattle.json.specs.Print.{quoted}
use Rattle.doc_values.specs.declared.value.Value.{Value}
use Rattle.doc_values.specs.Value.{value_text, printed}
use Rattle.doc_values.specs.Doc.{Fields}
use Rattle.row_columns.specs.Contents.{Output}
use Rattle.exec_finish.specs.Distinct.{distinct}
use Rattle.exec_finish.specs.Order.{ordered}

-- The first rows, as many as are asked for.
abbrev pub limited : Option ℕ → List Output → List Output
limited None rows = rows
limited (Some limit) rows = take limit rows

-- Texts with a comma between any two.
abbrev pub separated : List (List ℕ) → List ℕ
separated [] = []
separated (t ∷ ts) = t ++ flat_map (λ u. codes "," ++ u) ts

-- A list of items.
abbrev pub items_text : List (Option Value) → List ℕ
items_text items = codes "[" ++ separated (map printed items) ++ codes "]"

-- A field of a document.
abbrev pub member_text : (List ℕ × Value) → List ℕ
member_text f = quoted f.0 ++ codes ":" ++ value_text f.1

-- A document, its names ascending as they stand in it.
abbrev pub document_text : Fields → List ℕ
document_text fields = codes "{" ++ separated (map member_text fields) ++ codes "}"

-- A line: the bytes with a line feed.
abbrev pub line : List ℕ → List ℕ
line bytes = bytes ++ 10 ∷ []

-- The line of a row: its items, or for `*` its document. A row of `*` has one; without one it would be printed as the empty document.
abbrev pub row_line : Bool → Output → List ℕ
row_line star row = line (if star then document_text (unwrap_or row.doc []) else items_text row.items)

-- The line that ends an answer: how many rows it has.
abbrev pub ok_line : ℕ → List ℕ
ok_line rows = line (codes "ok " ++ decimal rows)

-- A line for each row, and how many there are.
abbrev pub answer_text : Bool → List Output → List ℕ
answer_text star rows = flat_map (row_line star) rows ++ ok_line (length rows)

-- DISTINCT, then ORDER BY, then LIMIT, then the text; of each key it is told whether it is descending.
abbrev pub finished : Bool → List Bool → Option ℕ → Bool → List Output → List ℕ
finished is_distinct descending limit star rows = answer_text star (limited limit (ordered descending (if is_distinct then distinct rows else rows)))
