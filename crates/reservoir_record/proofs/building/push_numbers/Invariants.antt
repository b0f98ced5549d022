use Rattle.std.proofs.Common.{◌≡◌, ◌++◌, drop}
use Rattle.std.specs.List.{flat_map}
use Rattle.reservoir_record.specs.Spelling.{numbers, number_bytes}
use Rattle.reservoir_record.proofs.building.push_numbers.Given as goal

abbrev pub invariant-loop-field : goal.invariant-loop-field
invariant-loop-field l = l.bytes.items ++ flat_map number_bytes (numbers (drop l.field-index l.fields)) ≡ l.fn.bytes.items ++ flat_map number_bytes (numbers l.fields)
