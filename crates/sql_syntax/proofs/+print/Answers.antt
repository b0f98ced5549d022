use Rattle.std.proofs.Common.{◌≡◌, [], ◌∷◌, ◌++◌, map, drop, ◌+◌, sym, ap, ◌∙◌, arith}
use Rattle.std.proofs.lemmas.List.{drop_more}
use Rattle.sql_grammar.specs.declared.mark.Mark.TheVariants as marks
use Rattle.sql_grammar.specs.declared.terminal.Terminal.TheVariants as terminal
use Rattle.sql_syntax.specs.declared.print_tightness.Tightness.TheVariants as tight
use Rattle.sql_syntax.specs.Printing.{each_behind, all_at, addends_printed, bracketed, call_word, denial_printed, joined_by, reference_printed}
use Rattle.sql_syntax.specs.PrintingTerm.{printed, member_printed}
use Rattle.sql_syntax.specs.PrintingText.{spaced}
use Rattle.sql_syntax.proofs.PrintSpaced.{then_spaced, behind_step, addend_step, chain_whole, sum_whole, compare_whole, among_whole, between_whole}
use Rattle.sql_syntax.proofs.+print.Goals as goal

pub print_terms::write_term-returns-in_ok-write_mark-2 : goal.print_terms::write_term-returns-in_ok-write_mark-2
print_terms::write_term-returns-in_ok-write_mark-2 t c =
    let node = printed c.args.term.now tight.Expr in
    let whole = then_spaced _ _ _ (terminal.Mark marks.Open ∷ node) (terminal.Mark marks.Close ∷ [])
    (then_spaced _ _ _ (terminal.Mark marks.Open ∷ []) node c.in_ok-write_mark.ensures.ok c.in_ok-write_node.ensures.ok) c.in_ok-write_mark-2.ensures.ok in
    record { ok = whole ∙ ap (λ ts. c.args.out.now.items ++ spaced ts) (sym (c.is_bracketed-brackets.ensures.bracketed c.if-brackets.true)) }

pub print_terms::write_bracketed-returns : goal.print_terms::write_bracketed-returns
print_terms::write_bracketed-returns t c =
    record { ok = then_spaced _ _ _ (terminal.Mark marks.Open ∷ printed c.args.term.now tight.Expr) (terminal.Mark marks.Close ∷ []) c.in_ok-write_behind.ensures.ok c.in_ok-write_mark.ensures.ok }

pub print_terms::write_aggregate-returns : goal.print_terms::write_aggregate-returns
print_terms::write_aggregate-returns t c =
    record { ok = then_spaced _ _ _ (terminal.Word (call_word c.args.call) ∷ []) (bracketed (printed c.args.arg.now tight.Expr)) c.in_ok-write_aggregate_word.ensures.ok c.in_ok-write_bracketed.ensures.ok }

pub print_terms::write_members-returns : goal.print_terms::write_members-returns
print_terms::write_members-returns t c =
    let shown = joined_by marks.Comma (all_at tight.Expr (map printed c.args.terms.now)) in
    let opened = then_spaced _ _ _ (terminal.Mark marks.In ∷ []) (terminal.Mark marks.Open ∷ []) c.in_ok-write_mark.ensures.ok c.in_ok-write_mark-2.ensures.ok in
    let listed = then_spaced _ _ _ (terminal.Mark marks.In ∷ terminal.Mark marks.Open ∷ []) shown opened c.in_ok-write_chain.ensures.ok in
    record { ok = then_spaced _ _ _ (terminal.Mark marks.In ∷ terminal.Mark marks.Open ∷ shown) (terminal.Mark marks.Close ∷ []) listed c.in_ok-write_mark-3.ensures.ok }

pub print_tests::write_any_of-returns : goal.print_tests::write_any_of-returns
print_tests::write_any_of-returns t c =
    let column = reference_printed c.args.column.now in
    let any = then_spaced _ _ _ (terminal.Mark marks.Equal ∷ []) (terminal.Mark marks.Any ∷ []) c.in_ok-write_mark.ensures.ok c.in_ok-write_mark-2.ensures.ok in
    let opened = then_spaced _ _ _ (terminal.Mark marks.Equal ∷ terminal.Mark marks.Any ∷ []) (terminal.Mark marks.Open ∷ []) any c.in_ok-write_mark-3.ensures.ok in
    let named = then_spaced _ _ _ (terminal.Mark marks.Equal ∷ terminal.Mark marks.Any ∷ terminal.Mark marks.Open ∷ []) column opened c.in_ok-write_reference.ensures.ok in
    let closed = then_spaced _ _ _ (terminal.Mark marks.Equal ∷ terminal.Mark marks.Any ∷ terminal.Mark marks.Open ∷ column) (terminal.Mark marks.Close ∷ []) named c.in_ok-write_mark-4.ensures.ok in
    record { ok = then_spaced _ _ _ (printed c.args.arg.now tight.Sum) (terminal.Mark marks.Equal ∷ terminal.Mark marks.Any ∷ bracketed column) c.in_ok-write_term.ensures.ok closed }

pub print_tests::write_is_null-returns : goal.print_tests::write_is_null-returns
print_tests::write_is_null-returns t c =
    let denial = denial_printed c.args.negated in
    let is = then_spaced _ _ _ (terminal.Mark marks.Is ∷ []) denial c.in_ok-write_mark.ensures.ok c.in_ok-write_denial.ensures.ok in
    let end = then_spaced _ _ _ (terminal.Mark marks.Is ∷ denial) (terminal.Mark marks.Null ∷ []) is c.in_ok-write_mark-2.ensures.ok in
    record { ok = then_spaced _ _ _ (printed c.args.arg.now tight.Sum) (terminal.Mark marks.Is ∷ (denial ++ terminal.Mark marks.Null ∷ [])) c.in_ok-write_term.ensures.ok end }

pub print_tests::write_like-returns : goal.print_tests::write_like-returns
print_tests::write_like-returns t c =
    let denial = denial_printed c.args.negated in
    let text = terminal.Text c.args.pattern.now ∷ [] in
    let like = then_spaced _ _ _ (terminal.Mark marks.Like ∷ []) text c.in_ok-write_mark.ensures.ok c.in_ok-write_text.ensures.ok in
    let end = then_spaced _ _ _ denial (terminal.Mark marks.Like ∷ text) c.in_ok-write_denial.ensures.ok like in
    record { ok = then_spaced _ _ _ (printed c.args.arg.now tight.Sum) (denial ++ terminal.Mark marks.Like ∷ text) c.in_ok-write_term.ensures.ok end }

pub print_terms::write_others-loop-i-preserved : goal.print_terms::write_others-loop-i-preserved
print_terms::write_others-loop-i-preserved t c =
    let i = c.loop-i.i in
    let xs = c.args.terms.now in
    let x = c.index-terms-i.result in
    let here : drop i xs ≡ x ∷ drop (i + 1) xs = drop_more xs i x (omega arith) ∙ ap (λ y. y ∷ drop (i + 1) xs) (sym c.index-terms-i.is) in
    behind_step c.loop-i.out.items c.write_behind.new.out.items c.args.mark c.args.asked x (drop (i + 1) xs) c.in_ok-write_behind.ensures.ok
    ∙ ap (λ ys. c.loop-i.out.items ++ spaced (each_behind c.args.mark (all_at c.args.asked (map printed ys)))) (sym here) ∙ c.loop-i.invariant

pub print_terms::write_addends-loop-i-preserved : goal.print_terms::write_addends-loop-i-preserved
print_terms::write_addends-loop-i-preserved t c =
    let i = c.loop-i.i in
    let xs = c.args.members.now in
    let x = c.index-members-i.result in
    let here : drop i xs ≡ x ∷ drop (i + 1) xs = drop_more xs i x (omega arith) ∙ ap (λ y. y ∷ drop (i + 1) xs) (sym c.index-members-i.is) in
    addend_step c.loop-i.out.items c.write_behind.new.out.items x (drop (i + 1) xs)
    (c.in_ok-write_behind.ensures.ok ∙ ap (λ m. c.loop-i.out.items ++ spaced (terminal.Mark m ∷ printed x.term tight.Product)) c.sign_mark.ensures.exact)
    ∙ ap (λ ys. c.loop-i.out.items ++ spaced (addends_printed (map member_printed ys))) (sym here) ∙ c.loop-i.invariant

pub print_terms::write_chain-returns-in_ok-write_others : goal.print_terms::write_chain-returns-in_ok-write_others
print_terms::write_chain-returns-in_ok-write_others t c =
    let x = c.first-item.result in
    record {
      ok = then_spaced _ _ _ (printed x c.args.asked) (each_behind c.args.mark (all_at c.args.asked (map printed (drop 1 c.args.terms.now)))) c.in_ok-write_term.ensures.ok c.in_ok-write_others.ensures.ok
          ∙ ap (λ ts. c.args.out.now.items ++ spaced ts) (chain_whole c.args.mark c.args.asked c.args.terms.now x (omega arith) c.first-item.is);
    }

pub print_terms::write_sum-returns-in_ok-write_addends : goal.print_terms::write_sum-returns-in_ok-write_addends
print_terms::write_sum-returns-in_ok-write_addends t c =
    let x = c.first-item.result in
    record {
      ok = then_spaced _ _ _ (printed x.term tight.Product) (addends_printed (map member_printed (drop 1 c.args.members.now))) c.in_ok-write_term.ensures.ok c.in_ok-write_addends.ensures.ok
          ∙ ap (λ ts. c.args.out.now.items ++ spaced ts) (sum_whole c.args.members.now x (omega arith) c.first-item.is);
    }

pub print_terms::write_node-returns-in_ok-write_behind-in-Compare : goal.print_terms::write_node-returns-in_ok-write_behind-in-Compare
print_terms::write_node-returns-in_ok-write_behind-in-Compare t c =
    record { ok = compare_whole _ _ _ _ _ _ _ _ _ _ c.in-Compare.is c.get-in-Compare.ensures c.get-in-Compare-2.ensures c.mark_of.ensures.exact c.in_ok-write_term-in-Compare.ensures.ok c.in_ok-write_behind-in-Compare.ensures.ok }

pub print_tests::write_test-returns-in_ok-write_members-in-Among : goal.print_tests::write_test-returns-in_ok-write_members-in-Among
print_tests::write_test-returns-in_ok-write_members-in-Among t c =
    record { ok = among_whole _ _ _ _ _ _ _ _ _ _ c.in-Among.is c.get.ensures c.as_slice.ensures c.in_ok-write_term-in-Among.ensures.ok c.in_ok-write_denial-in-Among.ensures.ok c.in_ok-write_members-in-Among.ensures.ok }

pub print_tests::write_test-returns-in_ok-write_behind-in-Between-2 : goal.print_tests::write_test-returns-in_ok-write_behind-in-Between-2
print_tests::write_test-returns-in_ok-write_behind-in-Between-2 t c =
    record {
      ok = between_whole _ _ _ _ _ _ _ _ _ _ _ _ _ c.in-Between.is c.get-in-Between.ensures c.get-in-Between-2.ensures c.get-in-Between-3.ensures c.in_ok-write_term-in-Between.ensures.ok c.in_ok-write_denial-in-Between.ensures.ok
          c.in_ok-write_behind-in-Between.ensures.ok c.in_ok-write_behind-in-Between-2.ensures.ok;
    }
