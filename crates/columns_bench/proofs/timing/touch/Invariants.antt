use Rattle.columns_bench.specs.Typed.{AreTyped}
use Rattle.columns_bench.proofs.timing.touch.Given as goal

abbrev pub invariant-loop-place : goal.invariant-loop-place
invariant-loop-place l = AreTyped l.columns.cells
