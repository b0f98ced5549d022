use Rattle.phys_columns.proofs.Lanes.{only_zeros}
use Rattle.phys_columns.proofs.slots.zeros.Goals as goal

pub returns-clause-zero : goal.returns-clause-zero
returns-clause-zero c k = rw c.in_ok-resize.ensures.items (rw c.in_ok-numbers.ensures.items (only_zeros _ k))
