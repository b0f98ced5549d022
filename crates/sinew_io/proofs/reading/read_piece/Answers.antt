use Rattle.std.proofs.Common.{rules}
use Rattle.sinew_io.proofs.UnderWay.{ReadsPiece-beyond}
use Rattle.sinew_io.proofs.reading.read_piece.Goals as goal

pub returns-clause-exact : goal.returns-clause-exact
returns-clause-exact g c =
    ReadsPiece-beyond _ _ _ _ c.read.new.buffer _ _ _ (search rules) (search rules) (search rules) c.if-count-room.false c.in_ok-extend_from_slice-2.ensures.items c.in-Bytes.ensures.exact.2
