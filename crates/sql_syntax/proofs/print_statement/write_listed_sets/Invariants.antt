use Rattle.std.proofs.Common.{◌≡◌, ◌++◌, map, take}
use Rattle.sql_grammar.specs.declared.mark.Mark.TheVariants as marks
use Rattle.sql_syntax.specs.Printing.{joined_by}
use Rattle.sql_syntax.specs.PrintingQuery.{set_printed}
use Rattle.sql_syntax.specs.PrintingText.{spaced}
use Rattle.sql_syntax.proofs.print_statement.write_listed_sets.Given as goal

abbrev pub invariant-loop-i : goal.invariant-loop-i
invariant-loop-i l = l.out.items ≡ l.fn.out.items ++ spaced (joined_by marks.Comma (map set_printed (take l.i l.sets)))
