use Rattle.std.proofs.Common.{◌<◌, ◌≤◌, length, ap, arith}
use Rattle.phys_columns.specs.Cells.{ColumnsOf}
use Rattle.layout_store.proofs.Cleared.{clear-none, clear-next, clear-all}
use Rattle.layout_store.proofs.rolling.clear_cells.Goals as goal

pub loop-place-init : goal.loop-place-init
loop-place-init c = clear-none c.args.version c.args.ids.now c.args.columns.now.cells

pub loop-place-preserved : goal.loop-place-preserved
loop-place-preserved c =
    let lt : c.loop-place.place < length c.args.ids.now = omega (arith, c.loop-place-test.true, c.len-place-end.ensures.exact) in
    clear-next c.cells_are_a_map.ensures.taken c.args.version c.args.ids.now c.loop-place.place c.id.result lt c.id.ensures.exact c.args.columns.now.cells c.loop-place.columns.cells c.clear_cell.new.self.cells c.loop-place.invariant (ap (λ (x : ColumnsOf). x.cells) c.clear_cell.ensures.exact)

pub returns : goal.returns
returns c =
    let le : length c.args.ids.now ≤ c.loop-place.place = omega (arith, c.loop-place-test.false, c.len-place-end.ensures.exact) in
    record {
      gone = clear-all c.args.version c.args.ids.now c.loop-place.place le c.args.columns.now.cells c.loop-place.columns.cells c.loop-place.invariant c.requires.listed;
      kept = c.loop-place.invariant.kept;
    }
