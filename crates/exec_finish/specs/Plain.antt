-- The row that a tuple gives where rows are not grouped.
use Rattle.std.specs.Prelude.{ℕ, Bool, List, map, min, Option, Some, None, option_and_then, if◌then◌else◌}
use Rattle.doc_values.specs.Doc.{Fields}
use Rattle.sql_eval.specs.declared.expr.Expr.{Expr}
use Rattle.sql_eval.specs.declared.select_plan.SelectPlan.{SelectPlan}
use Rattle.sql_eval.specs.Resolved.{value_over}
use Rattle.row_columns.specs.Contents.{Cells, Output}
use Rattle.row_columns.specs.Sides.{side_at}

-- The document of the first table's row.
abbrev pub document_of : List (Option Cells) → Option Fields
document_of tuple = option_and_then (λ row. row.doc) (side_at tuple 0)

-- A tuple's row: the values of items and keys over it, and for `*` its document.
abbrev pub plain_row : Bool → List Expr → List Expr → List (Option Cells) → Output
plain_row star items keys tuple = record {
  items = map (value_over tuple) items;
  doc = if star then document_of tuple else None;
  keys = map (value_over tuple) keys;
}

-- The row of a tuple by a plan.
abbrev pub row_by : SelectPlan → List (Option Cells) → Output
row_by p = plain_row p.star p.items (map (λ k. k.expr) p.keys)

-- How many of so many rows a limit admits.
abbrev pub admitted : Option ℕ → ℕ → ℕ
admitted None rows = rows
admitted (Some limit) rows = min limit rows
