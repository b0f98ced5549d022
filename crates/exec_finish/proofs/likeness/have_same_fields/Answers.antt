use Rattle.std.proofs.Common.{◌≡◌, ℕ, List, false, true, ◌&&◌, ◌+◌, drop, sym, ap, ◌∙◌}
use Rattle.std.specs.Cmp.Lexicographic.{pointwise}
use Rattle.doc_values.specs.declared.value.Value.{Value}
use Rattle.exec_finish.specs.Distinct.{is_same_field}
use Rattle.exec_finish.proofs.Places.{drop_found}
use Rattle.exec_finish.proofs.likeness.have_same_fields.Goals as goal

pub returns-then-not-is_same_field : goal.returns-then-not-is_same_field
returns-then-not-is_same_field c =
    let place = c.loop-place.place in
    let field : List ℕ × Value = (c.field.result.0.now, c.field.result.1.now) in
    let other : List ℕ × Value = (c.field-in-loop-place.result.0.now, c.field-in-loop-place.result.1.now) in
    let one = drop_found c.args.doc.now place field c.field.ensures.exact in
    let two = drop_found c.args.other.now place other c.field-in-loop-place.ensures.exact in
    let rest = pointwise is_same_field (drop (place + 1) c.args.doc.now) (drop (place + 1) c.args.other.now) in
    let differs : is_same_field field other ≡ false = sym c.is_same_field.ensures.exact ∙ c.if-not-is_same_field.true in
    record { exact = sym (ap (λ b. b && rest) differs) ∙ (λ i. pointwise is_same_field (sym one i) (sym two i)) ∙ c.loop-place.invariant }

pub loop-place-preserved : goal.loop-place-preserved
loop-place-preserved c =
    let place = c.loop-place.place in
    let field : List ℕ × Value = (c.field.result.0.now, c.field.result.1.now) in
    let other : List ℕ × Value = (c.field-in-loop-place.result.0.now, c.field-in-loop-place.result.1.now) in
    let one = drop_found c.args.doc.now place field c.field.ensures.exact in
    let two = drop_found c.args.other.now place other c.field-in-loop-place.ensures.exact in
    let rest = pointwise is_same_field (drop (place + 1) c.args.doc.now) (drop (place + 1) c.args.other.now) in
    let same : is_same_field field other ≡ true = sym c.is_same_field.ensures.exact ∙ c.if-not-is_same_field.false in
    sym (ap (λ b. b && rest) same) ∙ (λ i. pointwise is_same_field (sym one i) (sym two i)) ∙ c.loop-place.invariant
