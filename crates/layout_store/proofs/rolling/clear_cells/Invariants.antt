use Rattle.layout_store.proofs.Cleared.{AreClear}
use Rattle.layout_store.proofs.rolling.clear_cells.Given as goal

abbrev pub invariant-loop-place : goal.invariant-loop-place
invariant-loop-place l = AreClear l.version l.ids l.place l.fn.columns.cells l.columns.cells
