use Rattle.sinew_laws.proofs.NameLemmas.{qualified}
use Rattle.sinew_laws.proofs.names.one_of_several_tables_is_named.Goals as goal

pub returns : goal.returns
returns c = λ a b scope r bound. qualified a b scope r.qualifier bound
