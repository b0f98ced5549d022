use Rattle.std.proofs.Common.{◌∙◌, sym}
use Rattle.attr_catalog.proofs.NamesKept.{apart-seen, position-seen}
use Rattle.attr_catalog.proofs.names.Names.place.Goals as goal

pub returns-clause-exact : goal.returns-clause-exact
returns-clause-exact c = rw (← c.self.view_is) (c.get_index_of.ensures.index ∙ sym (position-seen c.args.name.now c.self.inside.entries.entries))

pub returns-clause-apart : goal.returns-clause-apart
returns-clause-apart c = rw (← c.self.view_is) (apart-seen c.self.inside.entries.entries c.get_index_of.ensures.unique)
