use Rattle.sql_tokens.proofs.EndCuts.{IsCharBoundary-behind_space}
use Rattle.sql_tokens.proofs.ends.skip_space.Goals as goal

pub range_from-requires : goal.range_from-requires
range_from-requires c = λ _. IsCharBoundary-behind_space c.args.text.now c.utf8.text _ c.space_len.ensures.exact
