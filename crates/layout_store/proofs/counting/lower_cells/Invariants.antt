use Rattle.attr_catalog.specs.Attribute.{lowered}
use Rattle.layout_store.specs.Changes.{AreChanged}
use Rattle.layout_store.proofs.Upto.{where_so, listed}
use Rattle.layout_store.proofs.counting.lower_cells.Given as goal

abbrev pub invariant-loop-place : goal.invariant-loop-place
invariant-loop-place l = AreChanged (where_so lowered (listed l.ids l.columns.cells l.version l.place)) l.fn.catalog l.catalog
