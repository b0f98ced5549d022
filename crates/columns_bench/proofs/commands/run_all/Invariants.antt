use Rattle.columns_bench.specs.Typed.{AreTyped}
use Rattle.columns_bench.proofs.commands.run_all.Given as goal

abbrev pub invariant-loop-line : goal.invariant-loop-line
invariant-loop-line l = (goal.iterator-loop-line).can_next l.line-iterator × (goal.iterator-loop-line).is_finite l.line-iterator × AreTyped l.columns.cells
