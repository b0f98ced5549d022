use Rattle.std.proofs.Common.{nat_lt}
use Rattle.layout_store.specs.Changes.{AreChanged}
use Rattle.layout_store.specs.RolledBack.{settled}
use Rattle.layout_store.proofs.Upto.{where_so}
use Rattle.layout_store.proofs.rolling.settle_marks.Given as goal

abbrev pub invariant-loop-id : goal.invariant-loop-id
invariant-loop-id l = AreChanged (where_so (settled l.versions) (λ i. nat_lt i l.id)) l.fn.catalog l.catalog
