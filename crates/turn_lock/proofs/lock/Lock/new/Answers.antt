use Rattle.std.proofs.Common.{arith}
use Rattle.turn_lock.proofs.Ends.{begins}
use Rattle.turn_lock.proofs.lock.Lock.new.Goals as goal

pub vacant-requires : goal.vacant-requires
vacant-requires g c =
    let fits = c.ranges.passes.fits in
    rw c.entries-seen.ensures (begins _ _ _ (g.T.Historied.history c.args.value) (omega arith) c.requires.passes c.requires.first)
