use Rattle.sql_syntax.specs.PrintingQuery.{expression_printed, direction_printed}
use Rattle.sql_syntax.proofs.PrintSpaced.{then_spaced}
use Rattle.sql_syntax.proofs.print_queries.write_key.Goals as goal

pub returns : goal.returns
returns c =
    record { ok = then_spaced _ _ _ (expression_printed c.args.key.now.expr) (direction_printed c.args.key.now.descending) c.in_ok-write_expression.ensures.ok c.in_ok-write_direction.ensures.ok }
