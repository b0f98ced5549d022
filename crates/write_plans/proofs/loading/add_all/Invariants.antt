use Rattle.write_plans.specs.UnderWay.{CanBeTakenBack, AreAdded}
use Rattle.write_plans.proofs.loading.add_all.Given as goal

abbrev pub invariant-loop-place : goal.invariant-loop-place
invariant-loop-place l = record {
  undo : CanBeTakenBack l.commit l.fn.layout l.layout;
  added : AreAdded l.commit l.documents l.place l.fn.layout l.layout;
}
