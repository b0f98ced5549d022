use Rattle.sinew_laws.proofs.CommitLemmas.{one_write}
use Rattle.sinew_laws.proofs.commits.a_write_leaves_one_thing.Goals as goal

pub returns : goal.returns
returns c = one_write
