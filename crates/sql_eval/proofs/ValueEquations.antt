-- The equations of what expressions mean, one for each form.
use Rattle.std.proofs.Common.{◌≡◌, ℕ, ℤ, Bool, List, map, Option, sym, ap, ◌∙◌}
use Rattle.doc_values.specs.declared.kind.Kind.{Kind}
use Rattle.doc_values.specs.declared.compare_op.CompareOp.{CompareOp}
use Rattle.doc_values.specs.declared.value.Value.{Value}
use Rattle.sql_eval.specs.declared.slot.Slot.{Slot}
use Rattle.sql_eval.specs.declared.addend.Addend.{Addend}
use Rattle.sql_eval.specs.declared.expr.Expr.{Expr}
use Rattle.sql_eval.specs.declared.expr.Expr.TheOpen.{Expr-F}
use Rattle.sql_eval.specs.declared.expr.Expr.TheVariants as expr
use Rattle.sql_eval.specs.declared.expr.Expr.TheFolds.{fold-roll-Expr}
use Rattle.row_columns.specs.Contents.{Cells}
use Rattle.sql_eval.specs.Resolved.{value_step, added_step, value_over, added_over}

module _ (tuple : List (Option Cells)) where
  abbrev value : Expr → Option Value
  value = value_over tuple

  abbrev added : Addend → Option ℤ
  added = added_over tuple

  pub value-Number : (n : ℕ) → value (expr.Number n) ≡ value_step tuple (Expr-F.Number n)
  value-Number n = ap value (sym (expr.rolls-Number n)) ∙ fold-roll-Expr (Option Value) (Option ℤ) (value_step tuple) added_step (Expr-F.Number n)

  pub value-Text : (s : List ℕ) → value (expr.Text s) ≡ value_step tuple (Expr-F.Text s)
  value-Text s = ap value (sym (expr.rolls-Text s)) ∙ fold-roll-Expr (Option Value) (Option ℤ) (value_step tuple) added_step (Expr-F.Text s)

  pub value-Bool : (b : Bool) → value (expr.Bool b) ≡ value_step tuple (Expr-F.Bool b)
  value-Bool b = ap value (sym (expr.rolls-Bool b)) ∙ fold-roll-Expr (Option Value) (Option ℤ) (value_step tuple) added_step (Expr-F.Bool b)

  pub value-Null : value expr.Null ≡ value_step tuple Expr-F.Null
  value-Null = ap value (sym expr.rolls-Null) ∙ fold-roll-Expr (Option Value) (Option ℤ) (value_step tuple) added_step Expr-F.Null

  pub value-Column : (r : Slot) → value (expr.Column r) ≡ value_step tuple (Expr-F.Column r)
  value-Column r = ap value (sym (expr.rolls-Column r)) ∙ fold-roll-Expr (Option Value) (Option ℤ) (value_step tuple) added_step (Expr-F.Column r)

  pub value-Wanted : (k : Kind) (r : Slot) → value (expr.Wanted k r) ≡ value_step tuple (Expr-F.Wanted k r)
  value-Wanted k r = ap value (sym (expr.rolls-Wanted k r)) ∙ fold-roll-Expr (Option Value) (Option ℤ) (value_step tuple) added_step (Expr-F.Wanted k r)

  pub value-Or : (ts : List Expr) → value (expr.Or ts) ≡ value_step tuple (Expr-F.Or (map value ts))
  value-Or ts = ap value (sym (expr.rolls-Or ts)) ∙ fold-roll-Expr (Option Value) (Option ℤ) (value_step tuple) added_step (Expr-F.Or ts)

  pub value-And : (ts : List Expr) → value (expr.And ts) ≡ value_step tuple (Expr-F.And (map value ts))
  value-And ts = ap value (sym (expr.rolls-And ts)) ∙ fold-roll-Expr (Option Value) (Option ℤ) (value_step tuple) added_step (Expr-F.And ts)

  pub value-Not : (t : Expr) → value (expr.Not t) ≡ value_step tuple (Expr-F.Not (value t))
  value-Not t = ap value (sym (expr.rolls-Not t)) ∙ fold-roll-Expr (Option Value) (Option ℤ) (value_step tuple) added_step (Expr-F.Not t)

  pub value-Compare : (op : CompareOp) (t : Expr) (u : Expr) → value (expr.Compare op t u) ≡ value_step tuple (Expr-F.Compare op (value t) (value u))
  value-Compare op t u = ap value (sym (expr.rolls-Compare op t u)) ∙ fold-roll-Expr (Option Value) (Option ℤ) (value_step tuple) added_step (Expr-F.Compare op t u)

  pub value-IsNull : (t : Expr) (negated : Bool) → value (expr.IsNull t negated) ≡ value_step tuple (Expr-F.IsNull (value t) negated)
  value-IsNull t negated = ap value (sym (expr.rolls-IsNull t negated)) ∙ fold-roll-Expr (Option Value) (Option ℤ) (value_step tuple) added_step (Expr-F.IsNull t negated)

  pub value-Among : (t : Expr) (ts : List Expr) (negated : Bool) → value (expr.Among t ts negated) ≡ value_step tuple (Expr-F.Among (value t) (map value ts) negated)
  value-Among t ts negated = ap value (sym (expr.rolls-Among t ts negated)) ∙ fold-roll-Expr (Option Value) (Option ℤ) (value_step tuple) added_step (Expr-F.Among t ts negated)

  pub value-Between : (t : Expr) (low : Expr) (high : Expr) (negated : Bool) → value (expr.Between t low high negated) ≡ value_step tuple (Expr-F.Between (value t) (value low) (value high) negated)
  value-Between t low high negated = ap value (sym (expr.rolls-Between t low high negated)) ∙ fold-roll-Expr (Option Value) (Option ℤ) (value_step tuple) added_step (Expr-F.Between t low high negated)

  pub value-Like : (t : Expr) (s : List ℕ) (negated : Bool) → value (expr.Like t s negated) ≡ value_step tuple (Expr-F.Like (value t) s negated)
  value-Like t s negated = ap value (sym (expr.rolls-Like t s negated)) ∙ fold-roll-Expr (Option Value) (Option ℤ) (value_step tuple) added_step (Expr-F.Like t s negated)

  pub value-Sum : (ts : List Addend) → value (expr.Sum ts) ≡ value_step tuple (Expr-F.Sum (map added ts))
  value-Sum ts = ap value (sym (expr.rolls-Sum ts)) ∙ fold-roll-Expr (Option Value) (Option ℤ) (value_step tuple) added_step (Expr-F.Sum ts)

  pub value-Product : (ts : List Expr) → value (expr.Product ts) ≡ value_step tuple (Expr-F.Product (map value ts))
  value-Product ts = ap value (sym (expr.rolls-Product ts)) ∙ fold-roll-Expr (Option Value) (Option ℤ) (value_step tuple) added_step (Expr-F.Product ts)

  pub value-Minus : (t : Expr) → value (expr.Minus t) ≡ value_step tuple (Expr-F.Minus (value t))
  value-Minus t = ap value (sym (expr.rolls-Minus t)) ∙ fold-roll-Expr (Option Value) (Option ℤ) (value_step tuple) added_step (Expr-F.Minus t)
