use Rattle.type_rules.proofs.Runs.{can_be_run}
use Rattle.type_rules.proofs.typing.typed_select.Goals as goal

pub returns-clause-ok : goal.returns-clause-ok
returns-clause-ok c =
    let kept = c.in_ok-keep_rules.ensures.ok in
    let made = c.in_ok-plan.ensures.ok in
    (kept, made, can_be_run c.args.select.now c.in_ok-plan.field-0 c.requires.question kept made c.in_ok-plan.ensures.numerals)
