use Rattle.sinew_laws.proofs.StateLemmas.{stands_as_document}
use Rattle.sinew_laws.proofs.states.what_stands_is_a_document.Goals as goal

pub returns : goal.returns
returns c = stands_as_document
