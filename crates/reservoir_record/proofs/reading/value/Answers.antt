use Rattle.std.proofs.Common.{◌+◌, arith}
use Rattle.reservoir_record.proofs.Made.{Inside, inside}
use Rattle.reservoir_record.proofs.reading.value.Goals as goal

pub slice_bounds-result-end : goal.slice_bounds-result-end
slice_bounds-result-end c =
    let i : Inside c.args.bytes.now c.args.count = inside c.args.bytes.now c.args.count c.requires.table in
    omega (arith, i.room (c.args.place + 1) (omega arith))
