-- The sides of a tuple: one for each table, any of which may be missing.
use Rattle.std.specs.Prelude.{ℕ, List, Option, option_and_then, slice_get}

-- What stands on a side, if it is not missing.
abbrev pub side_at : {A : Type 0} → List (Option A) → ℕ → Option A
side_at sides place = option_and_then (λ side. side) (slice_get sides place)
