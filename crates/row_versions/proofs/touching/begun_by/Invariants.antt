use Rattle.std.proofs.Common.{◌≡◌, ℕ, ◌-◌, ◌<◌, ◌≤◌, length, slice_get, Some}
use Rattle.row_versions.specs.declared.version.Version.{Version}
use Rattle.row_versions.proofs.touching.begun_by.Given as goal

abbrev pub invariant-loop-low : goal.invariant-loop-low
invariant-loop-low l = record {
  order : l.low ≤ l.high;
  within : l.high ≤ length l.list.versions;
  below : (i : ℕ) (v : Version) → i < l.low → slice_get l.list.versions i ≡ Some v → v.begin ≤ l.n;
  above : (i : ℕ) (v : Version) → l.high ≤ i → slice_get l.list.versions i ≡ Some v → l.n < v.begin;
}

abbrev pub decreases-loop-low : goal.decreases-loop-low
decreases-loop-low l = l.high - l.low
