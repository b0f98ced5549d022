use Rattle.std.proofs.Common.{map, drop, ◌+◌, None, refl, ap, ◌∙◌}
use Rattle.std.specs.List.{list_all}
use Rattle.sql_tree.specs.declared.item.Item.{Item}
use Rattle.sql_tree.specs.declared.term.Term.{Term}
use Rattle.type_rules.specs.Written.{is_written}
use Rattle.type_rules.specs.Steps.{has_numerals}
use Rattle.type_rules.proofs.Chains.{next, none_left, all_behind, all_left, ahead_goes, ahead_ends}
use Rattle.type_rules.proofs.planning.resolve_items.Goals as goal

abbrev expr_of : Item → Term
expr_of i = i.expr

pub loop-item-preserved : goal.loop-item-preserved
loop-item-preserved c =
    let items = c.args.items.now in
    let i = c.loop-item.item-index in
    let one = c.item-item.result in
    let here = ap (map expr_of) (next items i one c.loop-item-test.true c.item-item.is) in
    record {
      ahead = ahead_goes c.args.columns.now c.loop-item.columns c.resolve.new.columns (λ p. p.uses None) (λ _. None) (map expr_of items) (map expr_of (drop i items)) (map expr_of (drop (i + 1) items)) one.expr c.in_ok-resolve.field-0 c.loop-item.exprs c.push.new.self
          c.loop-item.invariant.ahead here c.in_ok-resolve.ensures.ok refl c.in_ok-push.ensures.ok;
      written = all_left is_written (map expr_of (drop i items)) (map expr_of (drop (i + 1) items)) one.expr here c.loop-item.invariant.written;
      numerals = ap (λ es. list_all (λ b. b) (map has_numerals es)) c.in_ok-push.ensures.ok ∙ all_behind has_numerals c.loop-item.exprs c.in_ok-resolve.field-0 c.loop-item.invariant.numerals c.in_ok-resolve.ensures.numerals;
    }

pub returns-clause-ok : goal.returns-clause-ok
returns-clause-ok c =
    let items = c.args.items.now in
    let i = c.loop-item.item-index in
    ahead_ends c.args.columns.now c.loop-item.columns (λ p. p.uses None) (λ _. None) (map expr_of items) (map expr_of (drop i items)) c.loop-item.exprs c.loop-item.invariant.ahead (ap (map expr_of) (none_left items i c.loop-item-test.false))
