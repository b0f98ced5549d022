use Rattle.std.proofs.Common.{◌∙◌, ◌-◌, List, ℕ, map, take, drop, sym, ap, arith}
use Rattle.exec_finish.specs.Order.{ordered}
use Rattle.exec_finish.proofs.FirstRows.{drop_back}
use Rattle.exec_finish.proofs.first_rows.first_in_order.Goals as goal

pub loop-left-preserved : goal.loop-left-preserved
loop-left-preserved c =
    let rows = c.args.rows.now in
    let left = c.loop-left.left in
    let before = c.loop-left.invariant in
    let directions = map (λ key. key.descending) c.args.keys.now in (
      omega (arith, before.0),
      λ most h. c.in_ok-put.ensures.within most (before.1 most h) (h (left - 1) 0 (omega (arith, before.0, c.loop-left-test.true))),
      λ row keyed.
          c.in_ok-put.ensures.ok row (map row (drop left rows)) keyed (before.2 row keyed)
          ∙ ap (λ (ns : List ℕ). take c.args.limit (ordered directions (map row ns))) (sym (drop_back rows left c.loop-left-test.true before.0)),
    )
