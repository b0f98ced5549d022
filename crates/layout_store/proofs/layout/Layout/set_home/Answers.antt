use Rattle.std.proofs.Common.{◌<◌, length, refl, ap, arith}
use Rattle.attr_catalog.specs.Attribute.{housed}
use Rattle.layout_store.specs.Storage.{Storage}
use Rattle.layout_store.proofs.Homes.{changed-layout, changed-shows, housed_keeps, housed_stays}
use Rattle.layout_store.proofs.layout.Layout.set_home.Goals as goal

pub invariant_of-self : goal.invariant_of-self
invariant_of-self c =
    let s : Storage = record { attributes = c.self.inside.catalog; history = c.self.inside.versions; records = c.self.inside.records.items; cells = c.self.inside.columns.cells } in
    let lt : c.args.id.0 < length c.self.inside.catalog = omega (arith, c.requires.standing, ap (λ (x : Storage). length x.attributes) c.self.view_is) in
    (rw c.set_home.ensures.exact (changed-layout s c.self.invariant.0 c.args.id lt (housed c.args.home) (housed_keeps c.args.home) (λ a at. housed_stays s c.self.invariant.0.placed c.args.id.0 c.args.home a at)), c.self.invariant.1)

pub returns : goal.returns
returns c =
    let s : Storage = record { attributes = c.self.inside.catalog; history = c.self.inside.versions; records = c.self.inside.records.items; cells = c.self.inside.columns.cells } in
    let lt : c.args.id.0 < length c.self.inside.catalog = omega (arith, c.requires.standing, ap (λ (x : Storage). length x.attributes) c.self.view_is) in
    rw (c.set_home.ensures.exact, ← c.self.view_is) (record {
      exact = refl;
      shows = changed-shows s c.self.invariant.0 c.args.id lt (housed c.args.home) (housed_keeps c.args.home) (λ a at. housed_stays s c.self.invariant.0.placed c.args.id.0 c.args.home a at);
    })
