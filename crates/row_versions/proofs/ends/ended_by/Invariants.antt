use Rattle.std.proofs.Common.{◌≡◌, ℕ, ◌-◌, ◌<◌, ◌≤◌, length, slice_get, Some}
use Rattle.row_versions.specs.Inside.{HasEnd}
use Rattle.row_versions.proofs.ends.ended_by.Given as goal

abbrev pub invariant-loop-low : goal.invariant-loop-low
invariant-loop-low l = record {
  order : l.low ≤ l.high;
  within : l.high ≤ length l.ended;
  below : (i place end : ℕ) → i < l.low → slice_get l.ended i ≡ Some place → HasEnd l.list.versions place end → end ≤ l.n;
  above : (i place end : ℕ) → l.high ≤ i → slice_get l.ended i ≡ Some place → HasEnd l.list.versions place end → l.n < end;
}

abbrev pub decreases-loop-low : goal.decreases-loop-low
decreases-loop-low l = l.high - l.low
