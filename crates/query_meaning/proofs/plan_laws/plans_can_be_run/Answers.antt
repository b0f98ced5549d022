use Rattle.query_meaning.proofs.PlansRun.{test_run, run_over}
use Rattle.query_meaning.proofs.plan_laws.plans_can_be_run.Goals as goal

pub returns : goal.returns
returns c = record { tested = test_run; law = run_over }
