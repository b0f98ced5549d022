use Rattle.script_reader.proofs.Cuts.{IsCharBoundary-past_word}
use Rattle.script_reader.proofs.piece.cut_word.Goals as goal

pub split_at-requires : goal.split_at-requires
split_at-requires c = IsCharBoundary-past_word _ _ c.word_len.ensures.exact
