use Rattle.std.proofs.Common.{◌∙◌, sym}
use Rattle.attr_catalog.specs.Inside.{shown}
use Rattle.attr_catalog.proofs.Cut.{cut-ends, cut-last}
use Rattle.attr_catalog.proofs.catalog.Catalog.pop.Goals as goal

pub forget-requires-clause-last : goal.forget-requires-clause-last
forget-requires-clause-last c = cut-last c.self.inside.names c.self.inside.stored.items c.pop.new.self.items c.in-Some.last c.self.invariant c.in-Some.ensures.items

pub invariant_of-self : goal.invariant_of-self
invariant_of-self c = (cut-ends c.self.inside.names c.forget.new.self c.self.inside.stored.items c.pop.new.self.items c.in-Some.last c.self.invariant c.in-Some.ensures.items c.forget.ensures.exact).0

pub returns-in-Some : goal.returns-in-Some
returns-in-Some c = record {
  exact =
      (shown c.self.inside.names c.in-Some.last, sym c.self.view_is ∙ (cut-ends c.self.inside.names c.forget.new.self c.self.inside.stored.items c.pop.new.self.items c.in-Some.last c.self.invariant c.in-Some.ensures.items c.forget.ensures.exact).1);
}
