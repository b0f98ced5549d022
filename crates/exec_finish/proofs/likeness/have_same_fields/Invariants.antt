use Rattle.std.proofs.Common.{◌≡◌, drop}
use Rattle.std.specs.Cmp.Lexicographic.{pointwise}
use Rattle.exec_finish.specs.Distinct.{is_same_field}
use Rattle.exec_finish.proofs.likeness.have_same_fields.Given as goal

abbrev pub invariant-loop-place : goal.invariant-loop-place
invariant-loop-place l = pointwise is_same_field (drop l.place l.doc) (drop l.place l.other) ≡ pointwise is_same_field l.doc l.other
