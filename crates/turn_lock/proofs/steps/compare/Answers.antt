use Rattle.std.proofs.Common.{arith}
use Rattle.turn_lock.proofs.Numbers.{compares}
use Rattle.turn_lock.proofs.steps.compare.Goals as goal

pub load-count-requires : goal.load-count-requires
load-count-requires g c = (c.requires.at.0, (let w = c.requires.at.1 in omega arith), compares _ _ _ _ _ _ c.requires.idle)
