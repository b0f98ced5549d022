use Rattle.doc_flatten.proofs.Light.{documents_of-light}
use Rattle.doc_flatten.proofs.laws.documents_are_light.Goals as goal

pub returns : goal.returns
returns c = documents_of-light
