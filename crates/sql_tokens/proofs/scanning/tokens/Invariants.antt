use Rattle.std.proofs.Common.{◌≡◌, ◌-◌, ◌≤◌, ◌++◌, drop, length}
use Rattle.std.specs.Prelude.{option_map}
use Rattle.sql_tokens.specs.Scan.{scan}
use Rattle.sql_tokens.proofs.scanning.tokens.Given as goal

abbrev pub invariant-loop-at : goal.invariant-loop-at
invariant-loop-at l = record { inside : l.at ≤ length l.bytes; read : option_map (λ more. l.found.items ++ more) (scan 0 l.at (drop l.at l.bytes)) ≡ scan 0 0 l.bytes }

abbrev pub decreases-loop-at : goal.decreases-loop-at
decreases-loop-at l = length l.bytes - l.at
