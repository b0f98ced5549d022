use Rattle.std.proofs.Common.{◌-◌, length}
use Rattle.sinew_io.proofs.UnderWay.{IsWriting}
use Rattle.sinew_io.proofs.writing.write_all_of.Given as goal

abbrev pub invariant-loop-count : goal.invariant-loop-count
invariant-loop-count g l =
    IsWriting g.W.Sink.taken g.W.Sink.faults l.initial.sink l.sink l.bytes l.count

abbrev pub decreases-loop-count : goal.decreases-loop-count
decreases-loop-count g l = length l.bytes - l.count
