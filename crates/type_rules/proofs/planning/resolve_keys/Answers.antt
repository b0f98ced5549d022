use Rattle.std.proofs.Common.{◌≡◌, Bool, [], ◌∷◌, ◌++◌, map, drop, take, ◌+◌, None, refl, sym, ap, ◌∙◌}
use Rattle.std.proofs.lemmas.List.{map_more}
use Rattle.std.specs.List.{list_all}
use Rattle.sql_tree.specs.declared.key.Key.{Key}
use Rattle.sql_eval.specs.declared.expr.Expr.{Expr}
use Rattle.sql_eval.specs.declared.key_plan.KeyPlan.{KeyPlan}
use Rattle.type_rules.specs.Places.{key_term}
use Rattle.type_rules.specs.Written.{is_written}
use Rattle.type_rules.specs.Steps.{has_numerals}
use Rattle.type_rules.proofs.Chains.{next, none_left, all_behind, all_left, ahead_goes, ahead_ends, of_term}
use Rattle.type_rules.proofs.Planned.{map_behind}
use Rattle.type_rules.proofs.planning.resolve_keys.Goals as goal

abbrev expr_of : KeyPlan → Expr
expr_of k = k.expr

abbrev turned : KeyPlan → Bool
turned k = k.descending

abbrev turns : Key → Bool
turns k = k.descending

pub loop-key-preserved : goal.loop-key-preserved
loop-key-preserved c =
    let keys = c.args.keys.now in
    let term_of = key_term c.args.aliases.now in
    let i = c.loop-key.key-index in
    let key = c.key-item.result in
    let e = c.in_ok-expr.expr in
    let plans = c.loop-key.plans in
    let one : KeyPlan = record { expr = e; descending = key.descending } in
    let here = ap (map term_of) (next keys i key c.loop-key-test.true c.key-item.is) in
    let pushed : map expr_of c.push.new.self ≡ map expr_of plans ++ e ∷ [] = ap (map expr_of) c.in_ok-push.ensures.ok ∙ map_behind expr_of plans one in
    let turned_too : map turned c.push.new.self ≡ map turned plans ++ key.descending ∷ [] = ap (map turned) c.in_ok-push.ensures.ok ∙ map_behind turned plans one in
    record {
      ahead = ahead_goes c.args.columns.now c.loop-key.columns c.resolve.new.columns (λ p. p.uses None) (λ _. None) (map term_of keys) (map term_of (drop i keys)) (map term_of (drop (i + 1) keys)) (term_of key) e (map expr_of plans) (map expr_of c.push.new.self)
          c.loop-key.invariant.ahead here (of_term c.loop-key.columns c.resolve.new.columns None e (term_of key) c.key_term.result.now (sym c.key_term.ensures.exact) c.in_ok-expr.ensures.ok) refl pushed;
      written = all_left is_written (map term_of (drop i keys)) (map term_of (drop (i + 1) keys)) (term_of key) here c.loop-key.invariant.written;
      descending = turned_too ∙ ap (λ ds. ds ++ key.descending ∷ []) c.loop-key.invariant.descending ∙ ap (λ b. map turns (take i keys) ++ b ∷ []) (ap turns c.key-item.is) ∙ sym (map_more turns keys i key c.loop-key-test.true);
      numerals = ap (λ es. list_all (λ b. b) (map has_numerals es)) pushed ∙ all_behind has_numerals (map expr_of plans) e c.loop-key.invariant.numerals c.in_ok-expr.ensures.numerals;
    }

pub returns-clause-ok : goal.returns-clause-ok
returns-clause-ok c =
    let keys = c.args.keys.now in
    let term_of = key_term c.args.aliases.now in
    let i = c.loop-key.key-index in
    ahead_ends c.args.columns.now c.loop-key.columns (λ p. p.uses None) (λ _. None) (map term_of keys) (map term_of (drop i keys)) (map expr_of c.loop-key.plans) c.loop-key.invariant.ahead (ap (map term_of) (none_left keys i c.loop-key-test.false))
