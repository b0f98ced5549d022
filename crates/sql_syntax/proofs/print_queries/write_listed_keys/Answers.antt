use Rattle.std.proofs.Common.{arith}
use Rattle.sql_grammar.specs.declared.mark.Mark.TheVariants as marks
use Rattle.sql_syntax.specs.PrintingQuery.{key_printed}
use Rattle.sql_syntax.proofs.PrintLists.{list_step}
use Rattle.sql_syntax.proofs.print_queries.write_listed_keys.Goals as goal

pub loop-i-preserved : goal.loop-i-preserved
loop-i-preserved c =
    list_step key_printed marks.Comma c.args.out.now.items c.loop-i.out.items c.write_mark_before.new.out.items c.write_key.new.out.items c.args.keys.now c.loop-i.i c.index-keys-i.result (omega arith) c.index-keys-i.is
    c.loop-i.invariant c.in_ok-write_mark_before.ensures.ok c.in_ok-write_key.ensures.ok
