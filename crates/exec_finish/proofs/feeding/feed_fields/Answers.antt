use Rattle.std.proofs.Common.{ℕ, List, fold, flat_map, drop, ◌+◌, sym, ap, ◌∙◌}
use Rattle.std.proofs.lemmas.List.Sums.{fold-append}
use Rattle.doc_values.specs.declared.value.Value.{Value}
use Rattle.exec_finish.specs.Fed.{field_fed}
use Rattle.exec_finish.proofs.Places.{drop_found}
use Rattle.exec_finish.proofs.feeding.feed_fields.Goals as goal

pub loop-place-preserved : goal.loop-place-preserved
loop-place-preserved g c =
    let write = g.H.Hasher.write in
    let fields = c.args.doc.now in
    let place = c.loop-place.place in
    let field : List ℕ × Value = (c.field.result.0.now, c.field.result.1.now) in
    ap (λ s. fold write s (flat_map field_fed (drop (place + 1) fields))) c.feed_field.ensures.exact
    ∙ sym (fold-append write c.loop-place.state (field_fed field) (flat_map field_fed (drop (place + 1) fields)))
    ∙ ap (λ fs. fold write c.loop-place.state (flat_map field_fed fs)) (sym (drop_found fields place field c.field.ensures.exact))
    ∙ c.loop-place.invariant
