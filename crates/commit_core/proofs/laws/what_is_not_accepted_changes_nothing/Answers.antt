use Rattle.commit_core.proofs.Later.{unchanged}
use Rattle.commit_core.proofs.laws.what_is_not_accepted_changes_nothing.Goals as goal

pub returns : goal.returns
returns c = unchanged
