use Rattle.std.proofs.Common.{◌∙◌, ap}
use Rattle.attr_catalog.specs.Attribute.{dirtied}
use Rattle.attr_catalog.specs.Catalog.{changed}
use Rattle.attr_catalog.proofs.Kept.{standing, changed-shown, together-changed}
use Rattle.attr_catalog.proofs.catalog.Catalog.mark_dirty.Goals as goal

pub invariant_of-self : goal.invariant_of-self
invariant_of-self c = together-changed c.self.inside.names c.self.inside.stored.items c.self.invariant c.args.id.0 c.index_mut.result.now c.mark_dirty.new.self (dirtied c.args.from) (standing c.self.inside.names c.self.inside.stored.items c.args.self.now c.args.id.0 c.index_mut.result.now c.self.view_is c.requires c.index_mut.ensures.value) c.mark_dirty.ensures.exact

pub returns : goal.returns
returns c = record { exact = changed-shown c.self.inside.names c.self.inside.stored.items c.self.invariant c.args.id.0 c.index_mut.result.now c.mark_dirty.new.self (dirtied c.args.from) (standing c.self.inside.names c.self.inside.stored.items c.args.self.now c.args.id.0 c.index_mut.result.now c.self.view_is c.requires c.index_mut.ensures.value) c.mark_dirty.ensures.exact ∙ ap (changed (dirtied c.args.from) c.args.id) c.self.view_is }
