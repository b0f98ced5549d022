use Rattle.std.proofs.Common.{[], ◌∷◌, map, sym, ap, subst, ◌∙◌}
use Rattle.sql_tree.specs.declared.table.Table.{Table}
use Rattle.type_rules.specs.Plan.{IsPlanOf}
use Rattle.type_rules.specs.Steps.{AreParts}
use Rattle.type_rules.proofs.Planned.{planned}
use Rattle.type_rules.proofs.planning.plan.Goals as goal

pub returns-clause-ok : goal.returns-clause-ok
returns-clause-ok c =
    let s = c.args.select.now in
    let parts = c.in_ok-parts.parts in
    let columns = c.resolve_parts.new.columns in
    let made = subst (λ before. AreParts before columns s parts.items parts.test (map (λ k. k.expr) parts.keys)) c.new-columns.ensures.exact c.in_ok-parts.ensures.ok in
    let tables = c.in_ok-tables.ensures.ok ∙ ap (λ x. x ∷ []) c.in_ok-copy.ensures.ok ∙ sym (ap (map (λ (t : Table). t.collection)) c.table.ensures.exact) in
    let refs = c.in_ok-refs.ensures.ok ∙ ap (λ x. x ∷ []) c.in_ok-to_items.ensures.ok in
    subst (IsPlanOf s) (sym c.assembled.ensures.exact) (planned s columns parts.items parts.test parts.keys c.in_ok-tables.tables c.in_ok-refs.refs c.requires.question c.requires.kept made c.in_ok-parts.ensures.descending tables refs)
