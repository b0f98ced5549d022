-- The different values of a list, and those that a survey has met.
use Rattle.std.specs.Prelude.{ℕ, ℤ, ◌+◌, Bool, true, false, List, [], ◌∷◌, ◌++◌, fold, length, if◌then◌else◌}
use Rattle.std.specs.List.{list_any}
use Rattle.std.specs.Ordering.{eq_by_cmp, int_eq}
use Rattle.std.specs.Str.{bytes_eq}
use Rattle.std.specs.Bool.{beq}
use Rattle.doc_values.specs.Order.{value_order}
use Rattle.doc_values.specs.declared.value.Value.{Value}
use Rattle.doc_values.specs.declared.value.Value.TheVariants as value

-- The values of a list with one more, unless it is among them.
abbrev pub with_different : {A : Type 0} → (A → A → Bool) → List A → A → List A
with_different eq values value = if list_any (eq value) values then values else values ++ value ∷ []

-- The different values of a list, each where it first comes.
abbrev pub different : List Value → List Value
different values = fold (with_different (eq_by_cmp value_order)) [] values

-- The different values that were met, by their kinds.
pub record Different : Type 0 where
  pub bools : List Bool
  pub numbers : List ℤ
  pub texts : List (List ℕ)
  pub arrays : List (List ℕ)
  pub object : Bool

-- None was met.
abbrev pub none_met : Different
none_met = record { bools = []; numbers = []; texts = []; arrays = []; object = false }

-- One value more was met.
abbrev pub met : Different → Value → Different
met d (value.Bool b) = record d { bools = with_different beq d.bools b }
met d (value.Int n) = record d { numbers = with_different int_eq d.numbers n }
met d (value.Text text) = record d { texts = with_different bytes_eq d.texts text }
met d (value.Array text) = record d { arrays = with_different bytes_eq d.arrays text }
met d value.Object = record d { object = true }

-- How many different values were met.
abbrev pub many : Different → ℕ
many d = length d.bools + length d.numbers + (length d.texts + length d.arrays) + (if d.object then 1 else 0)
