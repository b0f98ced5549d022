use Rattle.std.proofs.Common.{◌≡◌, ◌+◌, ◌≤◌, ◌-◌, map, drop, length, is_lt}
use Rattle.std.specs.List.{prefix_len}
use Rattle.exec_finish.specs.Keyed.{number_order}
use Rattle.exec_finish.proofs.first_rows.place_of.Given as goal

-- those so far come before the row, and those that are left decide
abbrev pub invariant-loop-place : goal.invariant-loop-place
invariant-loop-place l =
    (l.place ≤ length l.numbers)
    × (l.place + prefix_len (λ other. is_lt (number_order (map (λ key. key.descending) l.keys) l.columns other l.number)) (drop l.place l.numbers) ≡ prefix_len (λ other. is_lt (number_order (map (λ key. key.descending) l.keys) l.columns other l.number)) l.numbers)

abbrev pub decreases-loop-place : goal.decreases-loop-place
decreases-loop-place l = length l.numbers - l.place
