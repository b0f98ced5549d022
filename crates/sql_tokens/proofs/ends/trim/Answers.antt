use Rattle.std.proofs.Common.{arith}
use Rattle.std.proofs.lemmas.List.Sums.{suffix_len-le-length}
use Rattle.sql_tokens.specs.Forms.{is_space}
use Rattle.sql_tokens.proofs.EndCuts.{IsCharBoundary-before_space, trim_is}
use Rattle.sql_tokens.proofs.ends.trim.Goals as goal

pub overflow_sub-text : goal.overflow_sub-text
overflow_sub-text c = omega (arith, suffix_len-le-length is_space c.skip_space-text.result.now)

pub range-requires-clause-end_boundary : goal.range-requires-clause-end_boundary
range-requires-clause-end_boundary c = IsCharBoundary-before_space c.skip_space-text.result.now _ c.space_len_at_end.ensures.exact

pub returns : goal.returns
returns c = record { exact = trim_is c.args.text.now _ _ _ c.skip_space-text.ensures.exact c.space_len_at_end.ensures.exact c.range.ensures.value }
