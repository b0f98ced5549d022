use Rattle.std.proofs.Common.{length}
use Rattle.row_versions.specs.Inside.{AreLinked, AreNewest}
use Rattle.row_versions.proofs.CutOff.{IsCutting}
use Rattle.row_versions.proofs.lasts.cut.Given as goal

abbrev pub invariant-loop-last : goal.invariant-loop-last
invariant-loop-last l = record {
  cutting : IsCutting l.commit l.fn.list.versions l.list.versions;
  linked : AreLinked l.list.versions l.list.links;
  newest : AreNewest l.list.versions l.lasts.items;
}

abbrev pub decreases-loop-last : goal.decreases-loop-last
decreases-loop-last l = length l.list.versions
