use Rattle.std.proofs.Common.{ap}
use Rattle.commit_core.specs.Agreement.{sort_of}
use Rattle.sinew_laws.proofs.commits.readings_are_of_questions.Goals as goal

pub returns : goal.returns
returns c = λ reading texts agrees. ap sort_of agrees.planned
