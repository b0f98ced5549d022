use Rattle.sinew_laws.proofs.StateLemmas.{has_one_place}
use Rattle.sinew_laws.proofs.states.pairs_are_told_apart.Goals as goal

pub returns : goal.returns
returns c = has_one_place
