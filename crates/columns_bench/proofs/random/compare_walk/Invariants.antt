use Rattle.columns_bench.proofs.random.compare_walk.Given as goal

abbrev pub invariant-loop-version : goal.invariant-loop-version
invariant-loop-version l = (goal.iterator-loop-version).can_next l.version-iterator × (goal.iterator-loop-version).is_finite l.version-iterator
