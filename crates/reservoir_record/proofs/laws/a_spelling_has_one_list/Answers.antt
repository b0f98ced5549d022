use Rattle.reservoir_record.proofs.OneList.{one_list}
use Rattle.reservoir_record.proofs.laws.a_spelling_has_one_list.Goals as goal

pub returns : goal.returns
returns c = one_list
