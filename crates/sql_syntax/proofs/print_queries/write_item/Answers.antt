use Rattle.sql_syntax.specs.PrintingQuery.{expression_printed, alias_printed}
use Rattle.sql_syntax.proofs.PrintSpaced.{then_spaced}
use Rattle.sql_syntax.proofs.print_queries.write_item.Goals as goal

pub returns : goal.returns
returns c =
    record { ok = then_spaced _ _ _ (expression_printed c.args.item.now.expr) (alias_printed c.args.item.now.alias) c.in_ok-write_expression.ensures.ok c.in_ok-write_alias.ensures.ok }
