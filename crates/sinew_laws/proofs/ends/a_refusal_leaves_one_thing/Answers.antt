use Rattle.sinew_laws.proofs.EndLemmas.{one_refusal}
use Rattle.sinew_laws.proofs.ends.a_refusal_leaves_one_thing.Goals as goal

pub returns : goal.returns
returns c = one_refusal
