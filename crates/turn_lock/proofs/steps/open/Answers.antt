use Rattle.std.proofs.Common.{arith}
use Rattle.turn_lock.proofs.Turns.{opens}
use Rattle.turn_lock.proofs.steps.open.Goals as goal

pub load-count-requires : goal.load-count-requires
load-count-requires g c = (c.requires.at.0, (let w = c.requires.at.1 in omega arith), opens _ _ _ _ _ _ c.requires.founds.0 c.requires.founds.1)
