use Rattle.row_versions.proofs.Merged.{IsMerged}
use Rattle.row_versions.proofs.changing.merged.Given as goal

abbrev pub invariant-loop-at : goal.invariant-loop-at
invariant-loop-at l = IsMerged l.from l.to l.list.versions l.touches l.changes.items l.at
