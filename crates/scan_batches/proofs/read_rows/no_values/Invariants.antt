use Rattle.std.proofs.Common.{◌≡◌, [], replicate}
use Rattle.scan_batches.proofs.read_rows.no_values.Given as goal

abbrev pub invariant-loop-place : goal.invariant-loop-place
invariant-loop-place l = l.columns.items ≡ replicate l._place []
