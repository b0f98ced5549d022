use Rattle.sinew_app.proofs.LawsSerial.{serial_run}
use Rattle.sinew_app.proofs.laws.a_script_has_a_serial_run.Goals as goal

pub returns : goal.returns
returns c = serial_run
