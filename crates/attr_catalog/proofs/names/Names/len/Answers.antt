use Rattle.attr_catalog.proofs.NamesKept.{apart-seen}
use Rattle.attr_catalog.proofs.names.Names.len.Goals as goal

pub returns-clause-apart : goal.returns-clause-apart
returns-clause-apart c = rw (← c.self.view_is) (apart-seen c.self.inside.entries.entries c.len.ensures.unique)
