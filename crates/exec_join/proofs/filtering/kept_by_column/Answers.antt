use Rattle.std.proofs.Common.{◌≡◌, ◌∙◌, ◌<◌, [], Some, true, false, length, get_or, sym, ap, subst, arith}
use Rattle.row_columns.specs.Placed.{tuple_at}
use Rattle.row_columns.specs.declared.place.Place.{Place}
use Rattle.row_columns.specs.Lent.{owned}
use Rattle.sql_eval.specs.Operators.{comparison}
use Rattle.sql_eval.specs.Resolved.{cell_at}
use Rattle.exec_join.specs.Filter.{keeps}
use Rattle.exec_join.proofs.InPlace.{not_kept, more_kept, more_left}
use Rattle.exec_join.proofs.filtering.kept_by_column.Goals as goal
use Rattle.exec_join.proofs.filtering.kept_by_column.Goals.{in-True, in_default}

pub loop-i-preserved : goal.loop-i-preserved
loop-i-preserved c =
    let l = c.loop-i in
    let p = λ (place : Place). keeps (comparison c.args.test.op (cell_at (tuple_at c.args.tables.now place) c.args.test.slot) (Some (owned c.args.test.literal))) in
    let lt : l.i < length l.places = omega arith in
    let told = ap (λ t. keeps (comparison c.args.test.op (cell_at t c.args.test.slot) (Some (owned c.args.test.literal)))) (sym c.new.ensures.exact) ∙ ap keeps (sym c.truth.ensures.exact) in
    elim c.match-truth.branch [
      | in-True w ↦ rw (w.places-is, w.kept-is) (more_kept p c.args.places.now l.places l.kept l.i (record { rows = [] }) l.invariant lt (told ∙ ap keeps w.in-True.is))
      | in_default w ↦ rw (w.places-is, w.kept-is) (more_left p c.args.places.now l.places l.kept l.i (record { rows = [] }) l.invariant lt (told ∙ not_kept c.truth.result w.in_default.not-True))
    ]
