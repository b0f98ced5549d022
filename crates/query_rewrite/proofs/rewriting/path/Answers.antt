use Rattle.std.proofs.Common.{rules}
use Rattle.query_rewrite.proofs.rewriting.path.Goals as goal

pub returns-in-Some-clause-lawful : goal.returns-in-Some-clause-lawful
returns-in-Some-clause-lawful c = (c.args.column.now.name, c.args.column.now.want, search rules)

pub returns-in-None-clause-lawful : goal.returns-in-None-clause-lawful
returns-in-None-clause-lawful c = (c.args.column.now.name, c.args.column.now.want, search rules)
