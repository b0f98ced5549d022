-- What an expression means over a tuple of rows: a value, or NULL.
use Rattle.std.specs.Prelude.{pos, neg_ℤ, ℤ, List, map, Option, Some, None, option_map, option_and_then, slice_get}
use Rattle.doc_values.specs.declared.compare_op.CompareOp.TheVariants as compare_op
use Rattle.doc_values.specs.declared.value.Value as value
use Rattle.sql_eval.specs.declared.addend.Addend.{Addend}
use Rattle.sql_eval.specs.declared.slot.Slot.{Slot}
use Rattle.sql_eval.specs.declared.expr.Expr.{Expr}
use Rattle.sql_eval.specs.declared.expr.Expr.TheOpen.{Expr-F, Addend-F}
use Rattle.sql_eval.specs.declared.expr.Expr.TheFolds.{fold-Expr, fold-Addend}
use Rattle.sql_eval.specs.Truth.{denied, both, all_of, any_of, unless, value_of, truth_of}
use Rattle.sql_eval.specs.Operators.{number_of, value_of_number, signed, sum_of, product_of, comparison, likeness, nullness}
use Rattle.row_columns.specs.Contents.{Cells}
use Rattle.row_columns.specs.Sides.{side_at}

-- What a slot gives: the cell of its column on its table's side, and NULL where there is none.
abbrev pub cell_at : List (Option Cells) → Slot → Option value.Value
cell_at tuple slot = option_and_then (λ row. option_and_then (λ cell. cell) (slice_get row.cells slot.column)) (side_at tuple slot.table)

-- One level of an expression, its parts told by their values. Aggregates and ANY have no meaning here: NULL stands for it.
abbrev pub value_step : List (Option Cells) → Expr-F (Option value.Value) (Option ℤ) → Option value.Value
value_step tuple (Expr-F.Number n) = Some (value.TheVariants.Int (pos n))
value_step tuple (Expr-F.Text text) = Some (value.TheVariants.Text text)
value_step tuple (Expr-F.Bool b) = Some (value.TheVariants.Bool b)
value_step tuple Expr-F.Null = None
value_step tuple (Expr-F.Column slot) = cell_at tuple slot
value_step tuple (Expr-F.Wanted k slot) = cell_at tuple slot
value_step tuple (Expr-F.Or vs) = value_of (any_of (map truth_of vs))
value_step tuple (Expr-F.And vs) = value_of (all_of (map truth_of vs))
value_step tuple (Expr-F.Not v) = value_of (denied (truth_of v))
value_step tuple (Expr-F.Compare op v w) = value_of (comparison op v w)
value_step tuple (Expr-F.IsNull v negated) = nullness negated v
value_step tuple (Expr-F.Among v ws negated) = value_of (unless negated (any_of (map (comparison compare_op.Eq v) ws)))
value_step tuple (Expr-F.Between v low high negated) = value_of (unless negated (both (comparison compare_op.Ge v low) (comparison compare_op.Le v high)))
value_step tuple (Expr-F.Like v pattern negated) = value_of (unless negated (likeness v pattern))
value_step tuple (Expr-F.AnyOf v slot) = None
value_step tuple (Expr-F.Sum ns) = value_of_number (sum_of ns)
value_step tuple (Expr-F.Product vs) = value_of_number (product_of (map number_of vs))
value_step tuple (Expr-F.Minus v) = value_of_number (option_map neg_ℤ (number_of v))
value_step tuple Expr-F.CountAll = None
value_step tuple (Expr-F.Aggregate call v) = None

-- A member of a sum, as the number that it adds.
abbrev pub added_step : Addend-F (Option value.Value) (Option ℤ) → Option ℤ
added_step a = signed a.minus (number_of a.expr)

-- What an expression means over a tuple of rows, one for each table, any of which may be missing.
abbrev pub value_over : List (Option Cells) → Expr → Option value.Value
value_over tuple = fold-Expr (Option value.Value) (Option ℤ) (value_step tuple) added_step

-- What a member of a sum adds.
abbrev pub added_over : List (Option Cells) → Addend → Option ℤ
added_over tuple = fold-Addend (Option value.Value) (Option ℤ) (value_step tuple) added_step
