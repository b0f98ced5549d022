use Rattle.std.proofs.Common.{ℕ}
use Rattle.row_versions.specs.Inside.{StartsAt}
use Rattle.row_versions.proofs.walking.seen_from.Given as goal

abbrev pub invariant-loop-version : goal.invariant-loop-version
invariant-loop-version l = (row : ℕ) → StartsAt row l.n l.list.versions l.start → StartsAt row l.n l.list.versions l.place

abbrev pub decreases-loop-version : goal.decreases-loop-version
decreases-loop-version l = l.place
