use Rattle.std.proofs.Common.{◌<◌, ◌≤◌, length, arith}
use Rattle.attr_catalog.specs.Attribute.{Attribute, raised}
use Rattle.layout_store.proofs.Upto.{cell-standing, cell-now, cell-step, cells-none, cells-all}
use Rattle.layout_store.proofs.counting.raise_cells.Goals as goal

pub loop-place-init : goal.loop-place-init
loop-place-init c = cells-none raised c.args.ids.now c.args.columns.now.cells c.args.version c.args.catalog.now

pub raise_cell-requires-clause-standing : goal.raise_cell-requires-clause-standing
raise_cell-requires-clause-standing c = λ has.
    let lt : c.loop-place.place < length c.args.ids.now = omega (arith, c.loop-place-test.true, c.len-place-end.ensures.exact) in
    let less = cell-standing c.args.ids.now c.len-place-end.ensures.kept c.args.columns.now.cells c.args.version c.loop-place.place c.id.result lt c.id.ensures.exact (length c.args.catalog.now) c.requires.celled has in
    omega (arith, less, c.loop-place.invariant.many)

pub raise_cell-requires-clause-room : goal.raise_cell-requires-clause-room
raise_cell-requires-clause-room c = λ has.
    let lt : c.loop-place.place < length c.args.ids.now = omega (arith, c.loop-place-test.true, c.len-place-end.ensures.exact) in
    cell-now c.args.ids.now c.len-place-end.ensures.kept c.args.columns.now.cells c.args.version c.loop-place.place c.id.result lt c.id.ensures.exact raised c.args.catalog.now c.loop-place.catalog c.loop-place.invariant (λ (a : Attribute). a.count < 2097152) c.requires.celled has c.requires.room

pub loop-place-preserved : goal.loop-place-preserved
loop-place-preserved c =
    let lt : c.loop-place.place < length c.args.ids.now = omega (arith, c.loop-place-test.true, c.len-place-end.ensures.exact) in
    cell-step c.args.ids.now c.len-place-end.ensures.kept c.args.columns.now.cells c.args.version c.loop-place.place c.id.result lt c.id.ensures.exact raised c.args.catalog.now c.loop-place.catalog c.loop-place.invariant c.raise_cell.new.catalog c.requires.celled c.raise_cell.ensures.exact

pub returns : goal.returns
returns c =
    let le : length c.args.ids.now ≤ c.loop-place.place = omega (arith, c.loop-place-test.false, c.len-place-end.ensures.exact) in
    record { exact = cells-all raised c.args.ids.now c.args.columns.now.cells c.args.version c.loop-place.place c.args.catalog.now c.loop-place.catalog le c.requires.listed c.loop-place.invariant }
