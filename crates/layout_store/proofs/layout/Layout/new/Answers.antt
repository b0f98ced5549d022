use Rattle.std.proofs.Common.{ap}
use Rattle.phys_columns.specs.Cells.{ColumnsOf}
use Rattle.layout_store.proofs.Empty.{empty-layout, listed-none}
use Rattle.layout_store.proofs.layout.Layout.new.Goals as goal

pub invariant_of-result : goal.invariant_of-result
invariant_of-result c =
    (empty-layout c.new-catalog.result c.new-versions.result c.new-records.result.items c.new-columns.result.cells c.new-catalog.ensures.exact c.new-versions.ensures.exact c.new-records.ensures.items (ap (λ (x : ColumnsOf). x.cells) c.new-columns.ensures.exact), listed-none c.new-cell_ids.result c.new-columns.result.cells (ap (λ (x : ColumnsOf). x.cells) c.new-columns.ensures.exact))
