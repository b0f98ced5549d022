use Rattle.std.proofs.Common.{arith}
use Rattle.turn_lock.proofs.Numbers.{draws}
use Rattle.turn_lock.proofs.steps.draw.Goals as goal

pub fetch_add-requires : goal.fetch_add-requires
fetch_add-requires g c = (c.requires.at.0, (let w = c.requires.at.1 in omega arith), draws _ _ _ _ _ _ c.requires.free.0 c.requires.free.1)
