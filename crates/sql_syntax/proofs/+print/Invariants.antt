use Rattle.std.proofs.Common.{◌≡◌, ◌++◌, map, drop}
use Rattle.sql_syntax.specs.Printing.{each_behind, all_at, addends_printed}
use Rattle.sql_syntax.specs.PrintingTerm.{printed, member_printed}
use Rattle.sql_syntax.specs.PrintingText.{spaced}
use Rattle.sql_syntax.proofs.+print.Given as goal

-- what is written, and what the terms that are left come to
abbrev pub invariant-print_terms::write_others-loop-i : goal.invariant-print_terms::write_others-loop-i
invariant-print_terms::write_others-loop-i l =
    l.out.items ++ spaced (each_behind l.mark (all_at l.asked (map printed (drop l.i l.terms)))) ≡ l.fn.out.items ++ spaced (each_behind l.mark (all_at l.asked (map printed (drop 1 l.terms))))

-- the same of the members of a sum
abbrev pub invariant-print_terms::write_addends-loop-i : goal.invariant-print_terms::write_addends-loop-i
invariant-print_terms::write_addends-loop-i l =
    l.out.items ++ spaced (addends_printed (map member_printed (drop l.i l.members))) ≡ l.fn.out.items ++ spaced (addends_printed (map member_printed (drop 1 l.members)))
