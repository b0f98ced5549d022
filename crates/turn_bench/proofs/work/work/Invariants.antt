-- the pass is of the same lock and caller
use Rattle.std.proofs.Common.{◌≡◌}
use Rattle.turn_bench.proofs.work.work.Given as goal

abbrev pub invariant-loop-number : goal.invariant-loop-number
invariant-loop-number g l = (l.pass.lock ≡ l.fn.pass.lock) × (l.pass.caller ≡ l.caller)
