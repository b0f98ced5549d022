use Rattle.materialiser.proofs.Settled.{IsSettledTo}
use Rattle.materialiser.proofs.settling.settle.Given as goal

abbrev pub invariant-loop-id : goal.invariant-loop-id
invariant-loop-id l = IsSettledTo l.id l.moves l.initial.layout l.layout
