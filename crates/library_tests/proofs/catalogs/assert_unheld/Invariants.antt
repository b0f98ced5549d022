use Rattle.std.proofs.Common.{◌≡◌, ℕ, ◌<◌, ◌≤◌, Some, option_map, slice_get}
use Rattle.library_tests.proofs.catalogs.assert_unheld.Given as goal

abbrev pub invariant-loop-place : goal.invariant-loop-place
invariant-loop-place g l = (i : ℕ) → l.len ≤ i → i < l.place → option_map (λ a. a.count) (slice_get l.catalog i) ≡ Some 0
