use Rattle.std.proofs.Common.{Some, None}
use Rattle.type_rules.proofs.Planned.{some_made, none_made, of_test}
use Rattle.type_rules.proofs.planning.resolve_condition.Goals as goal

pub returns-in_ok-resolve-in-Some-clause-ok : goal.returns-in_ok-resolve-in-Some-clause-ok
returns-in_ok-resolve-in-Some-clause-ok c = of_test c.args.columns.now c.resolve.new.columns c.args.test.now (Some c.in-Some.term) (Some c.in_ok-resolve-in-Some.field-0) c.in-Some.is (some_made c.in-Some.term c.in_ok-resolve-in-Some.field-0 c.in_ok-resolve-in-Some.ensures.ok)

pub returns-in-None-clause-ok : goal.returns-in-None-clause-ok
returns-in-None-clause-ok c = of_test c.args.columns.now c.args.columns.now c.args.test.now None None c.in-None.is (none_made c.args.columns.now)
