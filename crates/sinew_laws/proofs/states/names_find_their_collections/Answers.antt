use Rattle.sinew_laws.proofs.StateLemmas.{is_a_map}
use Rattle.sinew_laws.proofs.states.names_find_their_collections.Goals as goal

pub returns : goal.returns
returns c = is_a_map
