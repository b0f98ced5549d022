use Rattle.sinew_laws.proofs.RunLemmas.{number_within}
use Rattle.sinew_laws.proofs.runs.numbers_are_at_most_all_commits.Goals as goal

pub returns : goal.returns
returns c = number_within
