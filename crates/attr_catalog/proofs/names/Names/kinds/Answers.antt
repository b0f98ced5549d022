use Rattle.std.proofs.Common.{◌∙◌}
use Rattle.attr_catalog.proofs.NamesKept.{values-seen}
use Rattle.attr_catalog.proofs.names.Names.kinds.Goals as goal

pub returns : goal.returns
returns c = record { exact = rw (← c.self.view_is) (values-seen c.self.inside.entries.entries c.args.place ∙ c.index.ensures) }
