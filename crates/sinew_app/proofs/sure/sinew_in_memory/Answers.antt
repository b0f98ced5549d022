use Rattle.std.proofs.Common.{refl}
use Rattle.sinew_app.proofs.Ends.{prints_run, prints_refusal, never_rose}
use Rattle.sinew_app.proofs.sure.sinew_in_memory.Goals as goal

pub returns-clause-done : goal.returns-clause-done
returns-clause-done c is = prints_run _ _ _ _ _ (c.sinew_serial.ensures.done is)

pub returns-clause-script : goal.returns-clause-script
returns-clause-script c is = prints_refusal _ _ _ _ _ (c.sinew_serial.ensures.script is)

pub returns-clause-decided : goal.returns-clause-decided
returns-clause-decided c = c.sinew_serial.ensures.complete _ refl never_rose never_rose
