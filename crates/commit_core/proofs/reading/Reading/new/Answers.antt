use Rattle.commit_core.proofs.Agreements.{Agrees-none}
use Rattle.commit_core.proofs.reading.Reading.new.Goals as goal

pub returns-clause-agrees : goal.returns-clause-agrees
returns-clause-agrees c = λ entries all. Agrees-none c.plans_keep_meaning.ensures.serve c.args.text c.args.plan c.args.at entries c.requires all
