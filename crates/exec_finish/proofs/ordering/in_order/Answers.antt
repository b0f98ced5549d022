use Rattle.std.proofs.Common.{◌∙◌, map, ap}
use Rattle.sql_eval.specs.declared.key_plan.KeyPlan.{KeyPlan}
use Rattle.exec_finish.specs.Answer.{limited}
use Rattle.exec_finish.proofs.Numbers.{without_keys}
use Rattle.exec_finish.proofs.ordering.in_order.Goals as goal

pub returns-in-empty-clause-ok : goal.returns-in-empty-clause-ok
returns-in-empty-clause-ok c row keyed = c.limited.ensures.ok row ∙ ap (limited c.args.limit) (without_keys c.args.keys.now (map row c.args.numbers.items) c.in-empty.len_below)
