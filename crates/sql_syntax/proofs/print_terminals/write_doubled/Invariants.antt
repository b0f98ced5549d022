use Rattle.std.proofs.Common.{◌≡◌, ◌++◌, drop}
use Rattle.sql_tokens.specs.Forms.{doubled}
use Rattle.sql_syntax.proofs.print_terminals.write_doubled.Given as goal

abbrev pub invariant-loop-byte : goal.invariant-loop-byte
invariant-loop-byte l = l.out.items ++ doubled (drop l.byte-index l.bytes) ≡ l.fn.out.items ++ doubled l.bytes
