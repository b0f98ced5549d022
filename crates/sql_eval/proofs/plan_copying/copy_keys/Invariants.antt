use Rattle.std.specs.Prelude.{◌≡◌, take}
use Rattle.sql_eval.proofs.plan_copying.copy_keys.Given as goal

abbrev pub invariant-loop-key : goal.invariant-loop-key
invariant-loop-key l = l.copies ≡ take l.key-index l.keys
