use Rattle.script_reader.proofs.Cuts.{IsCharBoundary-past_gap}
use Rattle.script_reader.proofs.piece.past_gap.Goals as goal

pub range_from-requires : goal.range_from-requires
range_from-requires c = λ _. IsCharBoundary-past_gap _ c.utf8.text _ c.gap_len.ensures.exact
