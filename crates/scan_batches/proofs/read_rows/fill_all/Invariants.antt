use Rattle.std.proofs.Common.{◌≡◌, map, take}
use Rattle.scan_batches.specs.Filled.{put_behind}
use Rattle.scan_batches.specs.Reading.{values_for}
use Rattle.scan_batches.proofs.read_rows.fill_all.Given as goal

abbrev pub invariant-loop-place : goal.invariant-loop-place
invariant-loop-place l = l.columns ≡ put_behind l.initial.columns (take l.place (map (λ c. map (values_for l.layout c) l.versions) l.refs))
