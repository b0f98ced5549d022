use Rattle.sql_tokens.proofs.Numbers.{numeral-parses}
use Rattle.sql_tokens.proofs.values.numeral_value.Goals as goal

pub unreachable-requires : goal.unreachable-requires
unreachable-requires c = let ok = numeral-parses c.args.token.now c.parse.result c.requires c.parse.ensures.value.0 in let err = c.in-Err.is in cc
