use Rattle.sinew_laws.proofs.RunLemmas.{never_falls}
use Rattle.sinew_laws.proofs.runs.numbers_of_a_session_never_fall.Goals as goal

pub returns : goal.returns
returns c = λ lines rules run j k upper lower before after legal. never_falls lines rules run legal j k upper lower before after
