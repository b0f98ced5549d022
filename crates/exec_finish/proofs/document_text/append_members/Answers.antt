use Rattle.std.proofs.Common.{ℕ, List, ◌++◌, ◌+◌, map, flat_map, drop, codes, sym, ap, ◌∙◌}
use Rattle.doc_values.specs.declared.value.Value.{Value}
use Rattle.exec_finish.specs.Answer.{member_text}
use Rattle.exec_finish.proofs.Places.{drop_found, append_next}
use Rattle.exec_finish.proofs.document_text.append_members.Goals as goal

pub loop-place-preserved : goal.loop-place-preserved
loop-place-preserved c =
    let fields = c.args.doc.now in
    let place = c.loop-place.place in
    let field : List ℕ × Value = (c.field-in-loop-place.result.0.now, c.field-in-loop-place.result.1.now) in
    let rest = flat_map (λ u. codes "," ++ u) (map member_text (drop (place + 1) fields)) in
    ap (λ text. text ++ rest) (c.in_ok-append_member-2.ensures.ok ∙ ap (λ text. text ++ member_text field) c.in_ok-push.ensures.items)
    ∙ append_next c.loop-place.text.items (member_text field) rest
    ∙ ap (λ fs. c.loop-place.text.items ++ flat_map (λ u. codes "," ++ u) (map member_text fs)) (sym (drop_found fields place field c.field-in-loop-place.ensures.exact))
    ∙ c.loop-place.invariant
