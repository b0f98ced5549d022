use Rattle.std.proofs.Common.{◌∙◌, ap}
use Rattle.attr_catalog.specs.Attribute.{lowered}
use Rattle.attr_catalog.specs.Catalog.{changed}
use Rattle.attr_catalog.proofs.Kept.{standing, changed-shown, together-changed}
use Rattle.attr_catalog.proofs.catalog.Catalog.lower.Goals as goal

pub invariant_of-self : goal.invariant_of-self
invariant_of-self c = together-changed c.self.inside.names c.self.inside.stored.items c.self.invariant c.args.id.0 c.index_mut.result.now c.lower.new.self lowered (standing c.self.inside.names c.self.inside.stored.items c.args.self.now c.args.id.0 c.index_mut.result.now c.self.view_is c.requires.standing c.index_mut.ensures.value) c.lower.ensures.exact

pub returns : goal.returns
returns c = record { exact = changed-shown c.self.inside.names c.self.inside.stored.items c.self.invariant c.args.id.0 c.index_mut.result.now c.lower.new.self lowered (standing c.self.inside.names c.self.inside.stored.items c.args.self.now c.args.id.0 c.index_mut.result.now c.self.view_is c.requires.standing c.index_mut.ensures.value) c.lower.ensures.exact ∙ ap (changed lowered c.args.id) c.self.view_is }
