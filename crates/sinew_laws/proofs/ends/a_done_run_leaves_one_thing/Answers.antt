use Rattle.sinew_laws.proofs.EndLemmas.{one_end}
use Rattle.sinew_laws.proofs.ends.a_done_run_leaves_one_thing.Goals as goal

pub returns : goal.returns
returns c = one_end c.a_script_has_one_serial_run.ensures
