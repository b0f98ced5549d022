use Rattle.std.proofs.Common.{◌≡◌, ◌≤◌, ◌<◌, ◌-◌, ◌++◌, length, map}
use Rattle.std.specs.Prelude.{All}
use Rattle.row_versions.specs.declared.version_id.VersionId.{VersionId}
use Rattle.scan_batches.specs.Scans.{documents_below}
use Rattle.scan_batches.specs.Reading.{document_in}
use Rattle.scan_batches.proofs.finding.seen.Given as goal

abbrev pub invariant-loop-row : goal.invariant-loop-row
invariant-loop-row l = record {
  documents : documents_below l.layout l.at l.row ≡ documents_below l.layout l.at l.from ++ map (document_in l.layout) l.seen.items;
  standing : All (λ (v : VersionId). v.0 < length l.layout.history.versions) l.seen.items;
  few : length l.seen.items ≤ l.row - l.from;
}
