use Rattle.commit_core.proofs.Later.{agrees_front, agrees_later}
use Rattle.commit_core.proofs.laws.readings_agree_with_later_commits.Goals as goal

pub returns : goal.returns
returns c = record { fronts = agrees_front; later = agrees_later }
