use Rattle.std.specs.Prelude.{◌≡◌, take}
use Rattle.sql_eval.proofs.plan_copying.copy_refs.Given as goal

abbrev pub invariant-loop-columns : goal.invariant-loop-columns
invariant-loop-columns l = l.copies ≡ take l.columns-index l.refs
