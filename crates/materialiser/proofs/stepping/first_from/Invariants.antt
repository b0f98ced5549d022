use Rattle.materialiser.specs.Dirty.{AreCleanBelow}
use Rattle.materialiser.proofs.stepping.first_from.Given as goal

abbrev pub invariant-loop-id : goal.invariant-loop-id
invariant-loop-id l = AreCleanBelow l.id l.catalog
