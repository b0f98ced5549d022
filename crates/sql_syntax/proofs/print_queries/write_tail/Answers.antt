use Rattle.std.proofs.Common.{◌++◌, ap, ◌∙◌}
use Rattle.sql_grammar.specs.declared.mark.Mark.TheVariants as marks
use Rattle.sql_syntax.specs.PrintingQuery.{behind_printed, grouping_printed, keys_printed, limit_printed}
use Rattle.sql_syntax.specs.PrintingText.{spaced}
use Rattle.sql_syntax.proofs.PrintSpaced.{then_spaced}
use Rattle.sql_syntax.proofs.print_queries.write_tail.Goals as goal

pub returns : goal.returns
returns c =
    let q = c.args.question.now in
    let last = then_spaced _ _ _ (keys_printed q.keys) (limit_printed q.limit) (c.in_ok-write_keys.ensures.ok ∙ ap (λ xs. c.write_behind_mark-2.new.out.items ++ spaced (keys_printed xs)) c.as_slice-2.ensures) c.in_ok-write_limit.ensures.ok in
    let having = then_spaced _ _ _ (behind_printed marks.Having q.having) (keys_printed q.keys ++ limit_printed q.limit) c.in_ok-write_behind_mark-2.ensures.ok last in
    let grouped = then_spaced _ _ _ (grouping_printed q.grouping) (behind_printed marks.Having q.having ++ (keys_printed q.keys ++ limit_printed q.limit)) (c.in_ok-write_grouping.ensures.ok ∙ ap (λ xs. c.write_behind_mark.new.out.items ++ spaced (grouping_printed xs)) c.as_slice.ensures) having in
    record { ok = then_spaced _ _ _ (behind_printed marks.Where q.test) (grouping_printed q.grouping ++ (behind_printed marks.Having q.having ++ (keys_printed q.keys ++ limit_printed q.limit))) c.in_ok-write_behind_mark.ensures.ok grouped }
