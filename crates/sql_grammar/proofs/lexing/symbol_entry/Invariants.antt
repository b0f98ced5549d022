use Rattle.std.proofs.Common.{◌≡◌, length, map}
use Rattle.std.specs.Str.{bytes_eq}
use Rattle.sql_grammar.specs.Words.{entry}
use Rattle.sql_grammar.proofs.lexing.symbol_entry.Given as goal

abbrev pub invariant-loop-entries : goal.invariant-loop-entries
invariant-loop-entries l = entry (bytes_eq l.symbol) (map (λ e. (e.0.now, e.1)) l.entries) ≡ entry (bytes_eq l.symbol) (map (λ e. (e.0.now, e.1)) l.initial.entries)

abbrev pub decreases-loop-entries : goal.decreases-loop-entries
decreases-loop-entries l = length l.entries
