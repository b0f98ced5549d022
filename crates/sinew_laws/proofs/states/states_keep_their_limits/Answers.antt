use Rattle.sinew_laws.proofs.StateLemmas.{is_small}
use Rattle.sinew_laws.proofs.states.states_keep_their_limits.Goals as goal

pub returns : goal.returns
returns c = is_small
