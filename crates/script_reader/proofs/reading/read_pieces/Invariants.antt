use Rattle.std.proofs.Common.{length}
use Rattle.std.specs.List.{slice_split}
use Rattle.script_reader.specs.Pieces.{is_line_feed}
use Rattle.script_reader.proofs.Progress.{IsReading}
use Rattle.script_reader.proofs.reading.read_pieces.Given as goal

abbrev pub invariant-loop-piece : goal.invariant-loop-piece
invariant-loop-piece l =
    (goal.iterator-loop-piece).can_next l.piece-iterator ×
    (goal.iterator-loop-piece).is_finite l.piece-iterator ×
    IsReading (slice_split is_line_feed l.body) (length l.yielded) l.number l.draft
