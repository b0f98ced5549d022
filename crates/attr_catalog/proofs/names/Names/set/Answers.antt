use Rattle.std.proofs.Common.{◌∙◌, ap, set}
use Rattle.attr_catalog.specs.Inside.{name_at}
use Rattle.attr_catalog.proofs.NamesKept.{set-seen}
use Rattle.attr_catalog.proofs.names.Names.set.Goals as goal

pub returns : goal.returns
returns c = record { exact = set-seen c.self.inside.entries.entries c.args.place c.args.kinds ∙ ap (λ l. set l c.args.place (name_at l c.args.place, c.args.kinds)) c.self.view_is }
