use Rattle.sinew_laws.proofs.StateRows.{ascends}
use Rattle.sinew_laws.proofs.states.rows_ascend.Goals as goal

pub returns : goal.returns
returns c = λ documents collection i j a b rules order. ascends documents collection rules i j a b order
