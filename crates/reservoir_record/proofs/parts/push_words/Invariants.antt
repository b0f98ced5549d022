use Rattle.std.proofs.Common.{◌≡◌, ◌++◌, drop}
use Rattle.std.specs.List.{flat_map}
use Rattle.reservoir_record.specs.Spelling.{number_bytes}
use Rattle.reservoir_record.proofs.parts.push_words.Given as goal

abbrev pub invariant-loop-number : goal.invariant-loop-number
invariant-loop-number l = l.bytes.items ++ flat_map number_bytes (drop l.number-index l.numbers) ≡ l.fn.bytes.items ++ flat_map number_bytes l.numbers
