use Rattle.std.proofs.Common.{ℕ, ◌+◌, ◌-◌, ◌*◌, ◌^◌, ◌<◌, ◌≤◌, List}
use Rattle.reservoir_record.specs.Words.{number_at}
use Rattle.reservoir_record.proofs.finding.place.Given as goal

-- what is known of the numbers outside the part that is left, and of the probes so far
pub record Narrowed (bytes : List ℕ) (count id low high before now : ℕ) : Type 0 where
  pub order : low ≤ high
  pub within : high ≤ count
  pub below : (k : ℕ) → k < low → number_at bytes k < id
  pub above : (k : ℕ) → high ≤ k → k < count → id < number_at bytes k
  pub counted : before ≤ now
  pub cost : 2 ^ (now - before) ≤ 2 * count + 1
  pub left : (high - low) * 2 ^ (now - before) ≤ count
  pub probed : high - low < count → before < now
  pub needed : count + 2 ≤ (high - low + 2) * 2 ^ (now - before)

abbrev pub invariant-loop-low : goal.invariant-loop-low
invariant-loop-low g l = Narrowed l.numbers.bytes.now l.count l.id l.low l.high l.fn.steps l.steps

abbrev pub decreases-loop-low : goal.decreases-loop-low
decreases-loop-low g l = l.high - l.low
