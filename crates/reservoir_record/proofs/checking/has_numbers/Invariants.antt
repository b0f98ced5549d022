use Rattle.std.proofs.Common.{◌≡◌, ℕ, ◌+◌, ◌-◌, ◌<◌, List}
use Rattle.reservoir_record.specs.Words.{HasNumbers, number_at}
use Rattle.reservoir_record.proofs.checking.has_numbers.Given as goal

-- the numbers so far ascend, and the next may be the least
pub record Ascending (bytes : List ℕ) (place least : ℕ) : Type 0 where
  pub so_far : HasNumbers bytes place
  pub first : place ≡ 0 → least ≡ 0
  pub later : 0 < place → least ≡ number_at bytes (place - 1) + 1

abbrev pub invariant-loop-place : goal.invariant-loop-place
invariant-loop-place l = Ascending l.bytes l.place l.least
