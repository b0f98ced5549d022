use Rattle.std.proofs.Common.{◌∙◌, ap, arith, ℕ, length}
use Rattle.reservoir_record.specs.Walking.{fields_from}
use Rattle.reservoir_record.proofs.Checked.{count_is}
use Rattle.reservoir_record.proofs.Found.{from_here}
use Rattle.reservoir_record.proofs.laws.a_spelling_has_its_fields_in_place.Goals as goal

pub returns : goal.returns
returns c = λ fields bytes s. ap (λ (n : ℕ). fields_from bytes n n 0) (count_is bytes fields s) ∙ from_here fields bytes s (length fields) 0 (omega arith)
