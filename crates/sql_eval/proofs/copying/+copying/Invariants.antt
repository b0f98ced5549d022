use Rattle.std.specs.Prelude.{◌≡◌, take}
use Rattle.sql_eval.proofs.copying.+copying.Given as goal

abbrev pub invariant-copy_all-loop-expr : goal.invariant-copy_all-loop-expr
invariant-copy_all-loop-expr l = l.copies ≡ take l.expr-index l.exprs

abbrev pub invariant-copy_addends-loop-addend : goal.invariant-copy_addends-loop-addend
invariant-copy_addends-loop-addend l = l.copies ≡ take l.addend-index l.addends
