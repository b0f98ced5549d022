use Rattle.std.proofs.Common.{map, None, ap, ◌∙◌}
use Rattle.std.specs.List.{list_all}
use Rattle.sql_tree.specs.declared.item.Item.{Item}
use Rattle.sql_tree.specs.declared.term.Term.{Term}
use Rattle.sql_eval.specs.declared.expr.Expr.{Expr}
use Rattle.sql_eval.specs.declared.key_plan.KeyPlan.{KeyPlan}
use Rattle.type_rules.specs.Places.{key_term, item_terms, key_terms}
use Rattle.type_rules.specs.Written.{is_written}
use Rattle.type_rules.proofs.Chains.{of_terms}
use Rattle.type_rules.proofs.Planned.{of_items, of_condition, of_keys, parts_made}
use Rattle.type_rules.proofs.planning.resolve_parts.Goals as goal

abbrev term_of : Item → Term
term_of i = i.expr

abbrev expr_of : KeyPlan → Expr
expr_of k = k.expr

pub resolve_items-requires : goal.resolve_items-requires
resolve_items-requires c = ap (λ is. list_all (λ b. b) (map is_written (map term_of is))) c.as_slice.ensures ∙ of_items is_written c.args.select.now c.requires.written

pub resolve_condition-requires : goal.resolve_condition-requires
resolve_condition-requires c = of_condition is_written c.args.select.now c.requires.written

pub resolve_keys-requires : goal.resolve_keys-requires
resolve_keys-requires c = (λ i. list_all (λ b. b) (map is_written (map (key_term (c.requires.aliases i)) (c.as_slice-2.ensures i)))) ∙ of_keys is_written c.args.select.now c.requires.written

pub returns-clause-ok : goal.returns-clause-ok
returns-clause-ok c =
    let s = c.args.select.now in
    let first = of_terms c.args.columns.now c.resolve_items.new.columns (λ p. p.uses None) (λ _. None) c.in_ok-items.items (item_terms s) (map term_of c.as_slice.result.now) (ap (map term_of) c.as_slice.ensures) c.in_ok-items.ensures.ok in
    let last = of_terms c.resolve_condition.new.columns c.resolve_keys.new.columns (λ p. p.uses None) (λ _. None) (map expr_of c.in_ok-keys.keys) (key_terms s) (map (key_term c.args.aliases.now) c.as_slice-2.result.now)
    (λ i. map (key_term (c.requires.aliases i)) (c.as_slice-2.ensures i)) c.in_ok-keys.ensures.ok in
    parts_made s c.in_ok-items.items c.in_ok-test.test (map expr_of c.in_ok-keys.keys) first c.in_ok-test.ensures.ok last
