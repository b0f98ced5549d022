use Rattle.std.proofs.Common.{◌≡◌, take}
use Rattle.sql_grammar.specs.Words.{terminals_of}
use Rattle.sql_grammar.proofs.lexing.terminals_of.Given as goal

abbrev pub invariant-loop-i : goal.invariant-loop-i
invariant-loop-i l = l.terminals.items ≡ terminals_of l.text (take l.i l.tokens)
