use Rattle.std.proofs.Common.{refl}
use Rattle.phys_columns.proofs.Held.{no_cells}
use Rattle.phys_columns.proofs.columns.Columns.new.Goals as goal

pub returns : goal.returns
returns c = rw c.new.ensures.items (rw no_cells (record { exact = refl }))
