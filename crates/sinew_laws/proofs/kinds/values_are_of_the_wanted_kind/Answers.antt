use Rattle.sinew_laws.proofs.KindLemmas.{gives_wanted}
use Rattle.sinew_laws.proofs.kinds.values_are_of_the_wanted_kind.Goals as goal

pub returns : goal.returns
returns c = λ scope group t want kept. gives_wanted scope group t want kept
