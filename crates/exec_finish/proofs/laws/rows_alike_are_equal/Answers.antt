use Rattle.exec_finish.specs.SameRows.{alike_decides}
use Rattle.exec_finish.proofs.laws.rows_alike_are_equal.Goals as goal

pub returns : goal.returns
returns c = λ r s. alike_decides r s
