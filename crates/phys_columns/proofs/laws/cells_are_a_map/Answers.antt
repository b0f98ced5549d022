use Rattle.phys_columns.proofs.Mapped.{puts_alone, takes_alone}
use Rattle.phys_columns.proofs.laws.cells_are_a_map.Goals as goal

pub returns : goal.returns
returns c = record { put = puts_alone; taken = takes_alone }
