use Rattle.std.proofs.Common.{◌≡◌, ◌≤◌, ◌<◌, ℕ, map, take, drop, length}
use Rattle.std.specs.Prelude.{All}
use Rattle.row_columns.specs.Contents.{Output}
use Rattle.exec_finish.specs.Order.{ordered}
use Rattle.exec_finish.specs.Keyed.{HaveKeys}
use Rattle.exec_finish.proofs.first_rows.first_in_order.Given as goal

-- what is kept are the first of the rows so far
abbrev pub invariant-loop-left : goal.invariant-loop-left
invariant-loop-left l =
    (l.left ≤ length l.rows)
    × ((most : ℕ) → All (λ n. n < most) l.rows → All (λ n. n < most) l.numbers.items)
    × ((row : ℕ → Output) → HaveKeys l.columns row → map row l.numbers.items ≡ take l.limit (ordered (map (λ key. key.descending) l.keys) (map row (drop l.left l.rows))))

abbrev pub decreases-loop-left : goal.decreases-loop-left
decreases-loop-left l = l.left
