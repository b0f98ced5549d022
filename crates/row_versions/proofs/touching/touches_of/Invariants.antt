use Rattle.std.proofs.Common.{length}
use Rattle.row_versions.proofs.TouchLists.{HasOnly, HasBegins, HasEnds}
use Rattle.row_versions.proofs.touching.touches_of.Given as goal

abbrev pub invariant-loop-place : goal.invariant-loop-place
invariant-loop-place l = record {
  only : HasOnly l.from l.to l.list.versions l.touches.items;
  begins : HasBegins l.from l.to l.list.versions l.touches.items l.place;
}

abbrev pub invariant-loop-at : goal.invariant-loop-at
invariant-loop-at l = record {
  only : HasOnly l.from l.to l.list.versions l.touches.items;
  begins : HasBegins l.from l.to l.list.versions l.touches.items (length l.list.versions);
  ends : HasEnds l.from l.to l.list.versions l.ended l.touches.items l.at;
}
