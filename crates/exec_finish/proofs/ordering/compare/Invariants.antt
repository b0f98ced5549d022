use Rattle.std.proofs.Common.{◌≡◌, map, drop}
use Rattle.row_columns.specs.Placed.{value_in}
use Rattle.exec_finish.specs.Order.{key_order}
use Rattle.exec_finish.proofs.Comparing.{directions}
use Rattle.exec_finish.proofs.ordering.compare.Given as goal

-- the keys that are left decide for all
abbrev pub invariant-loop-place : goal.invariant-loop-place
invariant-loop-place l =
    key_order (directions (drop l.place l.keys)) (drop l.place (map (value_in l.number) l.columns)) (drop l.place (map (value_in l.other) l.columns)) ≡ key_order (directions l.keys) (map (value_in l.number) l.columns) (map (value_in l.other) l.columns)
