use Rattle.query_meaning.proofs.PlansAnswer.{read_as_asked}
use Rattle.query_meaning.proofs.plan_laws.plans_read_what_is_asked.Goals as goal

pub returns : goal.returns
returns c = record { law = λ question plan columns is. read_as_asked c.resolving_keeps_meaning.ensures.kept question plan is columns }
