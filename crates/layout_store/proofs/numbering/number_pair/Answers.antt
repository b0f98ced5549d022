use Rattle.std.proofs.Common.{Err, arith, ap}
use Rattle.layout_store.proofs.Pairs.{pairs-with_pair, number_at, length-new}
use Rattle.layout_store.proofs.numbering.number_pair.Goals as goal

pub returns-in-Ok-clause-number : goal.returns-in-Ok-clause-number
returns-in-Ok-clause-number c = number_at c.args.name.now c.args.kind c.add.new.self c.in-Ok.id c.in-Ok.ensures.number

pub returns-in-Ok-clause-pairs : goal.returns-in-Ok-clause-pairs
returns-in-Ok-clause-pairs c = rw c.in-Ok.ensures.ok (pairs-with_pair c.args.name.now c.args.kind c.args.catalog.now)

pub returns-in-Err-Full-clause-full : goal.returns-in-Err-Full-clause-full
returns-in-Err-Full-clause-full c = λ _.
    let both = c.in-Err-Full.ensures.full.0 (ap Err c.in-Err-Full.field-0-is) in
    omega (arith, length-new c.args.name.now c.args.kind c.args.catalog.now both.0, both.1)
