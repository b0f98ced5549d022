use Rattle.std.specs.Prelude.{◌≡◌, take}
use Rattle.sql_eval.proofs.plan_copying.copy_joins.Given as goal

abbrev pub invariant-loop-join : goal.invariant-loop-join
invariant-loop-join l = l.copies ≡ take l.join-index l.joins
