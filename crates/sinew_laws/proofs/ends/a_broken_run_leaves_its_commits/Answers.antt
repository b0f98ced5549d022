use Rattle.sinew_laws.proofs.EndLemmas.{one_break}
use Rattle.sinew_laws.proofs.ends.a_broken_run_leaves_its_commits.Goals as goal

pub returns : goal.returns
returns c = one_break c.a_script_has_one_serial_run.ensures
