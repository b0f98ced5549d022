use Rattle.std.proofs.Common.{◌≡◌, ◌∙◌, ◌+◌, [], ◌∷◌, ◌++◌, sym, arith}
use Rattle.std.proofs.lemmas.List.FromFn.{map-range_with_len_more}
use Rattle.row_columns.specs.Placed.{alone_at}
use Rattle.row_columns.proofs.tuples.all_places.Goals as goal

pub loop-row-preserved : goal.loop-row-preserved
loop-row-preserved c =
    let k = c.loop-row.row in
    let same : 0 + k ≡ k = omega arith in
    c.in_ok-push.ensures.items ∙ (λ i. c.loop-row.invariant i ++ alone_at k ∷ []) ∙ sym (map-range_with_len_more alone_at 0 k k same)
