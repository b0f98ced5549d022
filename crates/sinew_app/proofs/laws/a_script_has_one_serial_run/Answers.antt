use Rattle.sinew_app.proofs.LawsOneRun.{one_run}
use Rattle.sinew_app.proofs.laws.a_script_has_one_serial_run.Goals as goal

pub returns : goal.returns
returns c = one_run
