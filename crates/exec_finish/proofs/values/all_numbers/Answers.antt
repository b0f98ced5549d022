use Rattle.std.proofs.Common.{◌≡◌, ◌∙◌, ◌+◌, ℕ, [], ◌∷◌, ◌++◌, sym, arith}
use Rattle.exec_finish.proofs.Numbers.{range_more}
use Rattle.exec_finish.proofs.values.all_numbers.Goals as goal

pub loop-number-preserved : goal.loop-number-preserved
loop-number-preserved c =
    let k = c.loop-number.number in
    c.in_ok-push.ensures.items ∙ (λ i. c.loop-number.invariant i ++ k ∷ []) ∙ sym (range_more k)
