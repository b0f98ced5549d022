use Rattle.std.proofs.Common.{◌≡◌, take}
use Rattle.scan_batches.proofs.scan.copies.Given as goal

abbrev pub invariant-loop-column : goal.invariant-loop-column
invariant-loop-column l = l.copies.items ≡ take l.column-index l.refs
