use Rattle.std.proofs.Common.{[], ◌∷◌, arith}
use Rattle.std.specs.Int.{w64, to_le_bytes}
use Rattle.reservoir_record.specs.Spelling.{AreFields}
use Rattle.store_tests.proofs.stored_values.record_of_a.Goals as goal

are_fields : AreFields (record { id = 0; bytes = to_le_bytes w64 7 } ∷ [])
are_fields = record { ascend = (omega arith, omega arith, tt); fit = omega arith }

pub record-requires : goal.record-requires
record-requires c = (record { id = 0; bytes = to_le_bytes w64 7 } ∷ [], (are_fields, c.in_ok-push.ensures.ok [] c.new-parts.ensures.exact))

pub returns : goal.returns
returns c = record { ok = c.record.ensures.ok (record { id = 0; bytes = to_le_bytes w64 7 } ∷ []) (c.in_ok-push.ensures.ok [] c.new-parts.ensures.exact) }
