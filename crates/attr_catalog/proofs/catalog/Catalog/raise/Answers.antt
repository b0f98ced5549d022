use Rattle.std.proofs.Common.{◌∙◌, ap}
use Rattle.attr_catalog.specs.Attribute.{raised}
use Rattle.attr_catalog.specs.Catalog.{changed}
use Rattle.attr_catalog.proofs.Kept.{standing, changed-shown, together-changed}
use Rattle.attr_catalog.proofs.catalog.Catalog.raise.Goals as goal

pub invariant_of-self : goal.invariant_of-self
invariant_of-self c = together-changed c.self.inside.names c.self.inside.stored.items c.self.invariant c.args.id.0 c.index_mut.result.now c.raise.new.self raised (standing c.self.inside.names c.self.inside.stored.items c.args.self.now c.args.id.0 c.index_mut.result.now c.self.view_is c.requires.standing c.index_mut.ensures.value) c.raise.ensures.exact

pub returns : goal.returns
returns c = record { exact = changed-shown c.self.inside.names c.self.inside.stored.items c.self.invariant c.args.id.0 c.index_mut.result.now c.raise.new.self raised (standing c.self.inside.names c.self.inside.stored.items c.args.self.now c.args.id.0 c.index_mut.result.now c.self.view_is c.requires.standing c.index_mut.ensures.value) c.raise.ensures.exact ∙ ap (changed raised c.args.id) c.self.view_is }
