use Rattle.attr_catalog.specs.Attribute.{raised}
use Rattle.layout_store.specs.Changes.{AreChanged}
use Rattle.layout_store.proofs.Upto.{where_so, before}
use Rattle.layout_store.proofs.counting.raise_fields.Given as goal

abbrev pub invariant-loop-place : goal.invariant-loop-place
invariant-loop-place l = AreChanged (where_so raised (before l.stored l.place)) l.fn.catalog l.catalog
