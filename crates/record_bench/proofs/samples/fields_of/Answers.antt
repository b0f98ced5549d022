use Rattle.std.proofs.Common.{◌≡◌, ◌+◌, ◌∙◌, List, length, ap, sym, subst, refl, arith}
use Rattle.reservoir_record.specs.declared.fields.Field.{Field}
use Rattle.record_bench.proofs.Sampled.{Made, made_more}
use Rattle.record_bench.proofs.samples.fields_of.Goals as goal

pub loop-id-preserved : goal.loop-id-preserved
loop-id-preserved c =
    let f : Field = record { id = c.loop-id.id; bytes = c.from_vec-bytes.result } in
    let eight : length c.from_vec-bytes.result ≡ 8 = ap length (c.from_vec-bytes.ensures.exact ∙ c.in_ok-from_slice.ensures.items ∙ c.to_le_bytes.ensures) in
    subst (λ (r : List Field). Made r (c.loop-id.id + 1)) (sym c.in_ok-push.ensures.items) (made_more c.loop-id.fields.items f c.loop-id.id c.loop-id.invariant refl eight (omega arith))
