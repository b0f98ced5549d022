use Rattle.sinew_laws.proofs.StateLemmas.{has_its_pairs}
use Rattle.sinew_laws.proofs.states.documents_have_their_pairs.Goals as goal

pub returns : goal.returns
returns c = has_its_pairs
