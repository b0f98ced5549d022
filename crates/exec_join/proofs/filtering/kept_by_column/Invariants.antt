use Rattle.std.proofs.Common.{Some}
use Rattle.std.proofs.lemmas.List.Filters.{FiltersInPlace}
use Rattle.row_columns.specs.Lent.{owned}
use Rattle.row_columns.specs.Placed.{tuple_at}
use Rattle.sql_eval.specs.Operators.{comparison}
use Rattle.sql_eval.specs.Resolved.{cell_at}
use Rattle.exec_join.specs.Filter.{keeps}
use Rattle.exec_join.proofs.filtering.kept_by_column.Given as goal

abbrev pub invariant-loop-i : goal.invariant-loop-i
invariant-loop-i l = FiltersInPlace (λ place. keeps (comparison l.test.op (cell_at (tuple_at l.tables place) l.test.slot) (Some (owned l.test.literal)))) l.fn.places l.places l.kept l.i
