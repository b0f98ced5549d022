use Rattle.std.proofs.Common.{◌≡◌, ◌++◌, ◌+◌, ℕ, List, length, drop}
use Rattle.std.specs.List.{flat_map}
use Rattle.reservoir_record.specs.declared.fields.Field.{Field}
use Rattle.reservoir_record.specs.Spelling.{values, number_bytes, ends}
use Rattle.reservoir_record.proofs.building.push_offsets.Given as goal

-- what is written with what is left gives all, and so do the values
pub record Placing (before bytes : List ℕ) (at : ℕ) (left fields : List Field) : Type 0 where
  pub text : bytes ++ flat_map number_bytes (ends at left) ≡ before ++ (number_bytes 0 ++ flat_map number_bytes (ends 0 fields))
  pub fits : at + length (values left) ≡ length (values fields)

abbrev pub invariant-loop-field : goal.invariant-loop-field
invariant-loop-field l = Placing l.fn.bytes.items l.bytes.items l.«end» (drop l.field-index l.fields) l.fields
