use Rattle.std.proofs.Common.{arith}
use Rattle.reservoir_record.proofs.Lists.{few}
use Rattle.reservoir_record.proofs.building.build.Goals as goal

pub overflow_cast-fields : goal.overflow_cast-fields
overflow_cast-fields c = omega (arith, few 0 c.args.fields.now c.requires.ascend (omega arith))
