use Rattle.std.proofs.Common.{◌-◌}
use Rattle.reservoir_record.proofs.Turned.{Turned}
use Rattle.reservoir_record.proofs.editing.lower.Given as goal

abbrev pub invariant-loop-place : goal.invariant-loop-place
invariant-loop-place l = Turned (λ n. n - l.by) l.at l.count l.fn.bytes l.bytes l.place
