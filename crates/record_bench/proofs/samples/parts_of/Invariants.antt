use Rattle.std.proofs.Common.{take}
use Rattle.reservoir_record.specs.Spelling.{ArePartsOf}
use Rattle.record_bench.proofs.samples.parts_of.Given as goal

abbrev pub invariant-loop-field : goal.invariant-loop-field
invariant-loop-field l = ArePartsOf (take l.field-index l.fields) l.ids.items l.ends.items l.values.items
