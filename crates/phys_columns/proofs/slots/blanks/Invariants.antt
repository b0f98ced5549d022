use Rattle.std.proofs.Common.{◌≡◌, ℕ, [], length, slice_index_or}
use Rattle.phys_columns.proofs.slots.blanks.Given as goal

abbrev pub invariant-loop : goal.invariant-loop
invariant-loop l = (length l.texts.items ≡ l.counter) × ((k : ℕ) → slice_index_or l.texts.items k [] ≡ [])
