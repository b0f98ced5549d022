use Rattle.sinew_laws.proofs.CommitLemmas.{one_answer}
use Rattle.sinew_laws.proofs.commits.what_was_read_decides_what_is_told.Goals as goal

pub returns : goal.returns
returns c = one_answer
