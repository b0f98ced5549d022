use Rattle.std.proofs.Common.{arith}
use Rattle.sinew_io.proofs.UnderWay.{GaveAtMost-join, GaveAtMost-beyond}
use Rattle.sinew_io.proofs.reading.read_in_turns.Goals as goal

pub returns-in_err-read_piece-clause-most : goal.returns-in_err-read_piece-clause-most
returns-in_err-read_piece-clause-most g c =
    let most = c.in_err-read_piece.ensures.exact in
    GaveAtMost-join _ _ _ _ most.0 _ c.loop-bytes.invariant.given (omega arith) most.2

pub returns-in-Beyond-clause-most : goal.returns-in-Beyond-clause-most
returns-in-Beyond-clause-most g c =
    GaveAtMost-beyond _ _ _ _ _ _ c.loop-bytes.invariant.given (rw c.in-Beyond.is at c.in_ok-read_piece.ensures.exact)
