use Rattle.std.proofs.Common.{◌∙◌, sym, ap}
use Rattle.attr_catalog.specs.Catalog.{kinds_of}
use Rattle.attr_catalog.proofs.Kept.{kinds-absent, kinds-present}
use Rattle.attr_catalog.proofs.catalog.Catalog.kinds_of.Goals as goal

pub returns-in-Some : goal.returns-in-Some
returns-in-Some c = record {
  exact =
      kinds-present c.self.inside.names c.self.inside.stored.items c.self.invariant c.args.name.now c.in-Some.place c.kinds.result (sym c.in-Some.ensures.exact) c.kinds.ensures.exact
      ∙ ap (kinds_of c.args.name.now) c.self.view_is;
}

pub returns-in-None : goal.returns-in-None
returns-in-None c = record {
  exact =
      c.none.ensures.exact ∙ kinds-absent c.self.inside.names c.self.inside.stored.items c.self.invariant c.args.name.now (sym c.in-None.ensures.exact) ∙ ap (kinds_of c.args.name.now) c.self.view_is;
}
