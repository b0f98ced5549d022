use Rattle.sinew_laws.proofs.CommitLemmas.{one_reading}
use Rattle.sinew_laws.proofs.commits.readings_of_one_number_hold_one_thing.Goals as goal

pub returns : goal.returns
returns c = one_reading
