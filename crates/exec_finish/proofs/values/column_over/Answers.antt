use Rattle.std.proofs.Common.{Option, All, get_or, [], ◌∷◌, ◌++◌, sym, ap, ◌∙◌, subst}
use Rattle.std.proofs.lemmas.List.{map_more}
use Rattle.std.proofs.lemmas.Option.{slice_get_within, get_or_from_slice_get}
use Rattle.doc_values.specs.declared.value.Value.{Value}
use Rattle.row_columns.specs.Placed.{Tuple}
use Rattle.sql_eval.specs.Resolved.{value_over}
use Rattle.sql_eval.specs.Widths.{CanEvaluate}
use Rattle.exec_finish.proofs.values.column_over.Goals as goal

pub value-requires-clause-narrow : goal.value-requires-clause-narrow
value-requires-clause-narrow c =
    let i = c.loop-place.place in
    let tuple = c.get.result in
    (subst (λ t. CanEvaluate t c.args.expr.now) (get_or_from_slice_get c.args.tuples.now i tuple tuple c.get.ensures.exact) (c.requires i tuple (slice_get_within c.args.tuples.now i tuple c.get.ensures.exact))).narrow

pub value-requires-clause-stored : goal.value-requires-clause-stored
value-requires-clause-stored c =
    let i = c.loop-place.place in
    let tuple = c.get.result in
    (subst (λ t. CanEvaluate t c.args.expr.now) (get_or_from_slice_get c.args.tuples.now i tuple tuple c.get.ensures.exact) (c.requires i tuple (slice_get_within c.args.tuples.now i tuple c.get.ensures.exact))).stored

pub loop-place-preserved : goal.loop-place-preserved
loop-place-preserved c =
    let means : Tuple → Option Value = λ tuple. value_over tuple c.args.expr.now in
    let i = c.loop-place.place in
    let tuple = c.get.result in
    let tuples = c.args.tuples.now in
    let here = sym (get_or_from_slice_get tuples i tuple tuple c.get.ensures.exact) in
    c.in_ok-push.ensures.ok
    ∙ (λ j. c.loop-place.invariant j ++ (c.value.ensures.exact ∙ ap means here) j ∷ [])
    ∙ sym (map_more means tuples i tuple (slice_get_within tuples i tuple c.get.ensures.exact))
