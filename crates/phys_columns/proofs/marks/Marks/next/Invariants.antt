use Rattle.std.proofs.Common.{◌≡◌, ◌≤◌, ◌<◌, ◌-◌, ℕ, false}
use Rattle.phys_columns.specs.Pages.{is_marked}
use Rattle.phys_columns.proofs.marks.Marks.next.Given as goal

abbrev pub invariant-loop-place : goal.invariant-loop-place
invariant-loop-place l = record {
  from_on : l.fn.from ≤ l.place;
  upto : l.place ≤ 1024;
  none : (k : ℕ) → l.fn.from ≤ k → k < l.place → is_marked l.self k ≡ false;
}

abbrev pub decreases-loop-place : goal.decreases-loop-place
decreases-loop-place l = 1024 - l.place
