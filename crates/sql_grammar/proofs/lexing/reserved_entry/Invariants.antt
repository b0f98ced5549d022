use Rattle.std.proofs.Common.{◌≡◌, length, map}
use Rattle.sql_grammar.specs.Words.{entry}
use Rattle.sql_grammar.specs.Terminals.{is_keyword}
use Rattle.sql_grammar.proofs.lexing.reserved_entry.Given as goal

abbrev pub invariant-loop-entries : goal.invariant-loop-entries
invariant-loop-entries l = entry (is_keyword l.word) (map (λ e. (e.0.now, e.1)) l.entries) ≡ entry (is_keyword l.word) (map (λ e. (e.0.now, e.1)) l.initial.entries)

abbrev pub decreases-loop-entries : goal.decreases-loop-entries
decreases-loop-entries l = length l.entries
