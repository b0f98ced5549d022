use Rattle.std.proofs.Common.{◌≡◌, ℕ, length}
use Rattle.phys_columns.specs.Inside.{pages_of}
use Rattle.phys_columns.proofs.columns.grow.Given as goal

abbrev pub invariant-loop : goal.invariant-loop
invariant-loop l = (length l.columns.items ≡ l.counter) × ((id : ℕ) → pages_of id l.columns.items ≡ pages_of id l.fn.columns.items)
