use Rattle.std.proofs.Common.{◌<◌, ◌≤◌, length, arith}
use Rattle.layout_store.specs.RolledBack.{settled}
use Rattle.layout_store.proofs.Upto.{numbers-none, number-next, numbers-all}
use Rattle.layout_store.proofs.rolling.settle_marks.Goals as goal

pub loop-id-init : goal.loop-id-init
loop-id-init c = numbers-none (settled c.args.versions) c.args.catalog.now

pub loop-id-preserved : goal.loop-id-preserved
loop-id-preserved c =
    let lt : c.loop-id.id < length c.args.catalog.now = omega (arith, c.loop-id-test.true, c.len-id-end.ensures.exact) in
    rw c.settle_mark.ensures.exact (number-next (settled c.args.versions) c.loop-id.id c.args.catalog.now c.loop-id.catalog c.loop-id.invariant lt)

pub returns : goal.returns
returns c =
    let le : length c.args.catalog.now ≤ c.loop-id.id = omega (arith, c.loop-id-test.false, c.len-id-end.ensures.exact) in
    record { exact = numbers-all (settled c.args.versions) c.loop-id.id c.args.catalog.now c.loop-id.catalog le c.loop-id.invariant }
