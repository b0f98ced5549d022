use Rattle.columns_bench.specs.Typed.{AreTyped}
use Rattle.columns_bench.proofs.timing.filled.Given as goal

abbrev pub invariant-loop-version : goal.invariant-loop-version
invariant-loop-version l = AreTyped l.columns.cells
