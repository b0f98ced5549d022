use Rattle.std.proofs.Common.{◌≡◌, ◌<◌, Some, length, slice_get, refl, ap, arith, subst, sym, IfSome}
use Rattle.attr_catalog.specs.Attribute.{Attribute, cleared}
use Rattle.layout_store.specs.Storage.{Storage}
use Rattle.layout_store.proofs.Homes.{changed-layout, changed-shows, cleared_keeps, cleared_stays}
use Rattle.layout_store.proofs.Lists.{if-some}
use Rattle.layout_store.proofs.layout.Layout.clear_dirty.Goals as goal

pub invariant_of-self : goal.invariant_of-self
invariant_of-self c =
    let s : Storage = record { attributes = c.self.inside.catalog; history = c.self.inside.versions; records = c.self.inside.records.items; cells = c.self.inside.columns.cells } in
    let lt : c.args.id.0 < length c.self.inside.catalog = omega (arith, c.requires.standing, ap (λ (x : Storage). length x.attributes) c.self.view_is) in
    let moved : IfSome (slice_get s.attributes c.args.id.0) (λ (a : Attribute). a.mark ≡ Some (length s.history.versions)) = subst (λ (x : Storage). IfSome (slice_get x.attributes c.args.id.0) (λ (a : Attribute). a.mark ≡ Some (length x.history.versions))) (sym c.self.view_is) c.requires.moved in
    (rw c.clear_dirty.ensures.exact (changed-layout s c.self.invariant.0 c.args.id lt cleared cleared_keeps (λ a at. cleared_stays s c.self.invariant.0.placed c.args.id.0 a at (if-some (slice_get s.attributes c.args.id.0) (λ (b : Attribute). b.mark ≡ Some (length s.history.versions)) a at moved))), c.self.invariant.1)

pub returns : goal.returns
returns c =
    let s : Storage = record { attributes = c.self.inside.catalog; history = c.self.inside.versions; records = c.self.inside.records.items; cells = c.self.inside.columns.cells } in
    let lt : c.args.id.0 < length c.self.inside.catalog = omega (arith, c.requires.standing, ap (λ (x : Storage). length x.attributes) c.self.view_is) in
    let moved : IfSome (slice_get s.attributes c.args.id.0) (λ (a : Attribute). a.mark ≡ Some (length s.history.versions)) = subst (λ (x : Storage). IfSome (slice_get x.attributes c.args.id.0) (λ (a : Attribute). a.mark ≡ Some (length x.history.versions))) (sym c.self.view_is) c.requires.moved in
    rw (c.clear_dirty.ensures.exact, ← c.self.view_is) (record {
      exact = refl;
      shows = changed-shows s c.self.invariant.0 c.args.id lt cleared cleared_keeps (λ a at. cleared_stays s c.self.invariant.0.placed c.args.id.0 a at (if-some (slice_get s.attributes c.args.id.0) (λ (b : Attribute). b.mark ≡ Some (length s.history.versions)) a at moved));
    })
