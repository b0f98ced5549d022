use Rattle.std.proofs.Common.{◌≡◌, ℕ, ◌+◌, ◌≤◌, ◌<◌, List}
use Rattle.reservoir_record.specs.Words.{offset_at}
use Rattle.reservoir_record.proofs.checking.has_offsets.Given as goal

-- the offsets so far never fall, and the last of them is the end
pub record Rising (bytes : List ℕ) (count place last : ℕ) : Type 0 where
  pub so_far : (k : ℕ) → k < place → offset_at bytes count k ≤ offset_at bytes count (k + 1)
  pub here : last ≡ offset_at bytes count place

abbrev pub invariant-loop-place : goal.invariant-loop-place
invariant-loop-place l = Rising l.bytes l.count l.place l.«end»
