use Rattle.sinew_laws.proofs.RunLemmas.{in_order}
use Rattle.sinew_laws.proofs.runs.exactly_accepted_writes_are_commits.Goals as goal

pub returns : goal.returns
returns c = λ lines run k reply legal e. (λ sure. legal.stands k reply e sure, λ s. in_order lines run k reply legal e s)
