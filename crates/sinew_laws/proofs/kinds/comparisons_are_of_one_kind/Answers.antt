use Rattle.sinew_laws.proofs.KindLemmas.{sides_give}
use Rattle.sinew_laws.proofs.kinds.comparisons_are_of_one_kind.Goals as goal

pub returns : goal.returns
returns c = λ scope group whole t u want compares kept. sides_give scope group want compares kept
