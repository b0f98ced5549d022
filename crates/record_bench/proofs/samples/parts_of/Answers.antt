use Rattle.std.proofs.Common.{◌≡◌, ◌+◌, ◌∙◌, List, [], ◌∷◌, ◌++◌, ℕ, length, ap, sym, get_or, take, arith}
use Rattle.std.proofs.lemmas.List.{length-append, take_more}
use Rattle.reservoir_record.specs.declared.fields.Field.{Field}
use Rattle.record_bench.proofs.Sampled.{fits_more}
use Rattle.record_bench.proofs.samples.parts_of.Goals as goal

pub overflow_cast-len : goal.overflow_cast-len
overflow_cast-len c =
    let text : c.extend_from_slice.new.self.items ≡ c.loop-field.values.items ++ c.field-item.result.bytes = c.in_ok-extend_from_slice.ensures.items ∙ ap (λ (r : List ℕ). c.loop-field.values.items ++ r) c.items.ensures.exact in
    let here : length c.field-item.result.bytes ≡ length (get_or c.args.fields.now c.loop-field.field-index c.field-item.result).bytes = ap (λ (f : Field). length f.bytes) c.field-item.is in
    omega (arith, c.len.ensures, ap length text, length-append c.loop-field.values.items c.field-item.result.bytes, ap length c.loop-field.invariant.whole, here, fits_more c.args.fields.now c.loop-field.field-index c.field-item.result (omega arith))

pub loop-field-preserved : goal.loop-field-preserved
loop-field-preserved c =
    let fields : take (c.loop-field.field-index + 1) c.args.fields.now ≡ take c.loop-field.field-index c.args.fields.now ++ (c.field-item.result ∷ []) = take_more c.args.fields.now c.loop-field.field-index c.field-item.result (omega arith) ∙ ap (λ (g : Field). take c.loop-field.field-index c.args.fields.now ++ (g ∷ [])) (sym c.field-item.is) in
    let text : c.extend_from_slice.new.self.items ≡ c.loop-field.values.items ++ c.field-item.result.bytes = c.in_ok-extend_from_slice.ensures.items ∙ ap (λ (r : List ℕ). c.loop-field.values.items ++ r) c.items.ensures.exact in
    let behind : c.len.result ≡ length c.loop-field.values.items + length c.field-item.result.bytes = omega (arith, c.len.ensures, ap length text, length-append c.loop-field.values.items c.field-item.result.bytes) in
    let ids : c.push.new.self.items ≡ c.loop-field.ids.items ++ (c.field-item.result.id ∷ []) = c.in_ok-push.ensures.items in
    let ends : c.push-in-loop-field.new.self.items ≡ c.loop-field.ends.items ++ ((length c.loop-field.values.items + length c.field-item.result.bytes) ∷ []) = c.in_ok-push-2.ensures.items ∙ ap (λ (n : ℕ). c.loop-field.ends.items ++ (n ∷ [])) behind in
    rw (fields, ids, ends, text) (c.parts_of_one_more.ensures (take c.loop-field.field-index c.args.fields.now) c.field-item.result c.loop-field.ids.items c.loop-field.ends.items c.loop-field.values.items c.loop-field.invariant)
