use Rattle.sinew_laws.proofs.RunLemmas.{keeps_sessions}
use Rattle.sinew_laws.proofs.runs.commits_of_a_session_keep_its_order.Goals as goal

pub returns : goal.returns
returns c = λ lines rules run i j above below upper lower legal. keeps_sessions lines rules run legal i j above below upper lower
