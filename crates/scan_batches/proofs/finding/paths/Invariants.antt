use Rattle.std.proofs.Common.{◌≡◌, map, take}
use Rattle.scan_batches.specs.Reading.{path_for}
use Rattle.scan_batches.proofs.finding.paths.Given as goal

abbrev pub invariant-loop-column : goal.invariant-loop-column
invariant-loop-column l = l.paths.items ≡ map (path_for l.catalog) (take l.column-index l.refs)
