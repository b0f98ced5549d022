use Rattle.std.proofs.Common.{take}
use Rattle.sinew_app.proofs.Growth.{Stored}
use Rattle.sinew_app.proofs.running.run_lines.Given as goal

abbrev pub invariant-loop-position : goal.invariant-loop-position
invariant-loop-position l = Stored (take l.position l.lines) l.ran l.store.commits
