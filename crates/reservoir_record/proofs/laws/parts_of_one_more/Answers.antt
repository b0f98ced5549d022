use Rattle.reservoir_record.proofs.Apart.{one_more}
use Rattle.reservoir_record.proofs.laws.parts_of_one_more.Goals as goal

pub returns : goal.returns
returns c = one_more
