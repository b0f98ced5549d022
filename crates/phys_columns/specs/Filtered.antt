-- Which values meet a comparison with a number, and the bits of a mask.
use Rattle.std.specs.Prelude.{ℕ, ◌==◌, List, ℤ, Bool, false, Option, Some, None, slice_index}
use Rattle.std.specs.Int.{bit_at}
use Rattle.std.specs.Ordering.{int_cmp}
use Rattle.doc_values.specs.declared.value.Value as value
use Rattle.doc_values.specs.Order.{admits}
use Rattle.phys_columns.specs.declared.compare_int.CompareInt.{CompareInt}

-- The number meets the comparison.
abbrev pub admits_number : CompareInt → ℤ → Bool
admits_number test n = admits test.op (int_cmp n test.with)

-- A number stands in the cell and meets the comparison.
abbrev pub is_met : CompareInt → Option value.Value → Bool
is_met test None = false
is_met test (Some (value.TheVariants.Bool b)) = false
is_met test (Some (value.TheVariants.Int n)) = admits_number test n
is_met test (Some (value.TheVariants.Text s)) = false
is_met test (Some (value.TheVariants.Array s)) = false
is_met test (Some value.TheVariants.Object) = false

-- Bit j of word w of a list of words.
abbrev pub is_bit : List ℕ → ℕ → ℕ → Bool
is_bit words w j = bit_at (slice_index words w) j == 1
