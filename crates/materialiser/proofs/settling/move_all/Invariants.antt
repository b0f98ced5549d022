use Rattle.std.proofs.Common.{◌≡◌}
use Rattle.attr_catalog.specs.Catalog.{changed}
use Rattle.layout_store.specs.Shows.{ShowsTheSame}
use Rattle.materialiser.specs.Steps.{IsRearranged, marked}
use Rattle.materialiser.proofs.settling.move_all.Given as goal

abbrev pub invariant-loop-version : goal.invariant-loop-version
invariant-loop-version l = record {
  attributes : l.layout.attributes ≡ changed (marked l.version) l.id l.initial.layout.attributes;
  kept : IsRearranged l.initial.layout l.layout;
  shows : ShowsTheSame l.initial.layout l.layout;
}
