use Rattle.std.proofs.Common.{◌≡◌, fold, flat_map, drop}
use Rattle.exec_finish.specs.Fed.{field_fed}
use Rattle.exec_finish.proofs.feeding.feed_fields.Given as goal

abbrev pub invariant-loop-place : goal.invariant-loop-place
invariant-loop-place g l =
    fold g.H.Hasher.write l.state (flat_map field_fed (drop l.place l.doc)) ≡ fold g.H.Hasher.write l.fn.state (flat_map field_fed l.doc)
