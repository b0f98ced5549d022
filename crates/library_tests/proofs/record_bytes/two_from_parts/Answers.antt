use Rattle.std.proofs.Common.{List, [], ◌∷◌, refl, arith}
use Rattle.reservoir_record.specs.declared.fields.Field.{Field}
use Rattle.library_tests.proofs.record_bytes.two_from_parts.Goals as goal

pub build_from_parts-requires : goal.build_from_parts-requires
build_from_parts-requires c = (
  record { id = 1; bytes = [] } ∷ (record { id = 2; bytes = 1 ∷ [] } ∷ []),
  (
    record { ascend = (omega arith, omega arith, (omega arith, omega arith, tt)); fit = omega arith },
    record { numbered = refl; placed = refl; whole = refl },
  ),
)
