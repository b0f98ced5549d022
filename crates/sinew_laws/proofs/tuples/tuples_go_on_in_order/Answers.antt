use Rattle.sinew_laws.proofs.TupleLemmas.{go_on}
use Rattle.sinew_laws.proofs.tuples.tuples_go_on_in_order.Goals as goal

pub returns : goal.returns
returns c = go_on
