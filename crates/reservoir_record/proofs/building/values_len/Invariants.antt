use Rattle.std.proofs.Common.{◌≡◌, ◌+◌, length, drop}
use Rattle.reservoir_record.specs.Spelling.{values}
use Rattle.reservoir_record.proofs.building.values_len.Given as goal

abbrev pub invariant-loop-field : goal.invariant-loop-field
invariant-loop-field l = l.len + length (values (drop l.field-index l.fields)) ≡ length (values l.fields)
