use Rattle.std.proofs.Common.{◌-◌, length}
use Rattle.sinew_io.proofs.UnderWay.{IsReading}
use Rattle.sinew_io.proofs.reading.read_in_turns.Given as goal

abbrev pub invariant-loop-bytes : goal.invariant-loop-bytes
invariant-loop-bytes g l =
    IsReading g.S.Source.left g.S.Source.faults l.initial.source l.source l.limit l.bytes.items l.initial.turns l.turns

abbrev pub decreases-loop-bytes : goal.decreases-loop-bytes
decreases-loop-bytes g l = l.limit - length l.bytes.items
