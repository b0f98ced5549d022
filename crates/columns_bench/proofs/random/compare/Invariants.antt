use Rattle.columns_bench.specs.Typed.{AreTyped}
use Rattle.columns_bench.proofs.random.compare.Given as goal

abbrev pub invariant-loop : goal.invariant-loop
invariant-loop l = AreTyped l.columns.cells
