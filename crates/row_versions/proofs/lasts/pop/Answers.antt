use Rattle.std.proofs.Common.{arith}
use Rattle.row_versions.proofs.LastPlaces.{pop-linked, pop-newest}
use Rattle.row_versions.proofs.lasts.pop.Goals as goal

pub returns-clause-linked : goal.returns-clause-linked
returns-clause-linked c = pop-linked c.args.list.now c.pop.new.self c.pop.ensures.exact c.requires.linked

pub returns-clause-newest : goal.returns-clause-newest
returns-clause-newest c = pop-newest c.args.list.now c.pop.new.self c.args.lasts.now.items c.forget_last.new.lasts.items _ c.version-version.result c.before-2.result c.pop.ensures.exact c.requires.linked c.requires.newest (omega (arith, c.len-place.ensures.exact)) c.version-version.ensures.exact c.before-2.ensures.exact c.forget_last.ensures.exact
