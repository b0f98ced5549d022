use Rattle.commit_core.proofs.States.{IsState-after}
use Rattle.commit_core.proofs.state_laws.states_keep_the_rules.Goals as goal

pub returns : goal.returns
returns c = IsState-after c.loads_are_light.ensures
