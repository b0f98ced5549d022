use Rattle.std.proofs.Common.{sym}
use Rattle.layout_store.proofs.Pairs.{pairs-known, number_at, grown_itself}
use Rattle.layout_store.proofs.lent_numbering.number_guessed.Goals as goal

pub returns-in-Some-clause-grown : goal.returns-in-Some-clause-grown
returns-in-Some-clause-grown c = grown_itself c.args.catalog.now

pub returns-in-Some-clause-number : goal.returns-in-Some-clause-number
returns-in-Some-clause-number c = number_at c.args.name.now c.args.kind c.args.catalog.now c.in-Some.id (sym c.in-Some.ensures.exact)

pub returns-in-Some-clause-pairs : goal.returns-in-Some-clause-pairs
returns-in-Some-clause-pairs c = pairs-known c.args.name.now c.args.kind c.args.catalog.now c.in-Some.id (sym c.in-Some.ensures.exact)
