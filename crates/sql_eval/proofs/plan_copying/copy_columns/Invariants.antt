use Rattle.std.specs.Prelude.{◌≡◌, take}
use Rattle.sql_eval.proofs.plan_copying.copy_columns.Given as goal

abbrev pub invariant-loop-column : goal.invariant-loop-column
invariant-loop-column l = l.copies ≡ take l.column-index l.columns
