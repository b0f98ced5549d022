use Rattle.layout_store.specs.Changes.{AreChanged, written_to}
use Rattle.layout_store.proofs.Upto.{where_so, before}
use Rattle.layout_store.proofs.counting.write_all.Given as goal

abbrev pub invariant-loop-place : goal.invariant-loop-place
invariant-loop-place l = AreChanged (where_so (λ a. written_to a.home l.version a) (before l.stored l.place)) l.fn.catalog l.catalog
