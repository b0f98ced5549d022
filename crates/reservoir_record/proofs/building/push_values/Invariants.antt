use Rattle.std.proofs.Common.{◌≡◌, ◌++◌, drop}
use Rattle.reservoir_record.specs.Spelling.{values}
use Rattle.reservoir_record.proofs.building.push_values.Given as goal

abbrev pub invariant-loop-field : goal.invariant-loop-field
invariant-loop-field l = l.bytes.items ++ values (drop l.field-index l.fields) ≡ l.fn.bytes.items ++ values l.fields
