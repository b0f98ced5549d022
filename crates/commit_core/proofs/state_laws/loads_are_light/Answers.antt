use Rattle.commit_core.proofs.Lights.{loads-light}
use Rattle.commit_core.proofs.state_laws.loads_are_light.Goals as goal

pub returns : goal.returns
returns c = loads-light c.documents_keep_the_limits.ensures c.documents_are_light.ensures c.a_text_spells_what_is_read.ensures.law
