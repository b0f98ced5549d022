use Rattle.std.proofs.Common.{◌<◌, ◌≤◌, length, arith}
use Rattle.attr_catalog.specs.Attribute.{Attribute, lowered}
use Rattle.layout_store.proofs.Upto.{cell-standing, cell-now, cell-step, cells-none, cells-all}
use Rattle.layout_store.proofs.counting.lower_cells.Goals as goal

pub loop-place-init : goal.loop-place-init
loop-place-init c = cells-none lowered c.args.ids.now c.args.columns.now.cells c.args.version c.args.catalog.now

pub lower_cell-requires-clause-standing : goal.lower_cell-requires-clause-standing
lower_cell-requires-clause-standing c = λ has.
    let lt : c.loop-place.place < length c.args.ids.now = omega (arith, c.loop-place-test.true, c.len-place-end.ensures.exact) in
    let less = cell-standing c.args.ids.now c.len-place-end.ensures.kept c.args.columns.now.cells c.args.version c.loop-place.place c.id.result lt c.id.ensures.exact (length c.args.catalog.now) c.requires.celled has in
    omega (arith, less, c.loop-place.invariant.many)

pub lower_cell-requires-clause-counted : goal.lower_cell-requires-clause-counted
lower_cell-requires-clause-counted c = λ has.
    let lt : c.loop-place.place < length c.args.ids.now = omega (arith, c.loop-place-test.true, c.len-place-end.ensures.exact) in
    cell-now c.args.ids.now c.len-place-end.ensures.kept c.args.columns.now.cells c.args.version c.loop-place.place c.id.result lt c.id.ensures.exact lowered c.args.catalog.now c.loop-place.catalog c.loop-place.invariant (λ (a : Attribute). 0 < a.count) c.requires.celled has c.requires.counted

pub loop-place-preserved : goal.loop-place-preserved
loop-place-preserved c =
    let lt : c.loop-place.place < length c.args.ids.now = omega (arith, c.loop-place-test.true, c.len-place-end.ensures.exact) in
    cell-step c.args.ids.now c.len-place-end.ensures.kept c.args.columns.now.cells c.args.version c.loop-place.place c.id.result lt c.id.ensures.exact lowered c.args.catalog.now c.loop-place.catalog c.loop-place.invariant c.lower_cell.new.catalog c.requires.celled c.lower_cell.ensures.exact

pub returns : goal.returns
returns c =
    let le : length c.args.ids.now ≤ c.loop-place.place = omega (arith, c.loop-place-test.false, c.len-place-end.ensures.exact) in
    record { exact = cells-all lowered c.args.ids.now c.args.columns.now.cells c.args.version c.loop-place.place c.args.catalog.now c.loop-place.catalog le c.requires.listed c.loop-place.invariant }
