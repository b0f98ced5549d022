use Rattle.std.proofs.Common.{◌≡◌, ◌+◌, ◌-◌, ◌≤◌, drop, length}
use Rattle.std.specs.Prelude.{option_map}
use Rattle.sql_tokens.specs.Scan.{text_len}
use Rattle.sql_tokens.proofs.lengths.text_len.Given as goal

abbrev pub invariant-loop-at : goal.invariant-loop-at
invariant-loop-at l = record { inside : l.at ≤ length l.bytes; read : option_map (λ n. l.at + n) (text_len (drop l.at l.bytes)) ≡ text_len l.bytes }

abbrev pub decreases-loop-at : goal.decreases-loop-at
decreases-loop-at l = length l.bytes - l.at
