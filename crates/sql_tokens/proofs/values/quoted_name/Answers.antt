use Rattle.std.proofs.Common.{arith, ap}
use Rattle.std.specs.Prelude.{length}
use Rattle.sql_tokens.specs.declared.token_sort.TokenSort.TheVariants.{Quoted}
use Rattle.sql_tokens.proofs.Cuts.{IsCharBoundary-behind_first}
use Rattle.sql_tokens.proofs.values.quoted_name.Goals as goal

pub range-requires-clause-start_boundary : goal.range-requires-clause-start_boundary
range-requires-clause-start_boundary c = λ _. IsCharBoundary-behind_first Quoted c.args.token.now c.utf8.token (omega (arith, ap length c.requires.1)) c.requires
