use Rattle.std.proofs.Common.{◌≡◌, ◌<◌, ◌+◌, ◌*◌, ◌∙◌, None, IfSome, length, slice_get, ap, sym, subst, arith}
use Rattle.attr_catalog.specs.Attribute.{Attribute}
use Rattle.attr_catalog.specs.declared.home.Home.TheVariants as home
use Rattle.doc_values.specs.declared.kind.Kind.TheVariants as kind
use Rattle.phys_columns.specs.Filtered.{is_met}
use Rattle.row_versions.proofs.Places.{get-within}
use Rattle.layout_store.specs.Storage.{Storage}
use Rattle.layout_store.proofs.Lists.{if-some}
use Rattle.layout_store.proofs.Read.{column-value}
use Rattle.layout_store.proofs.layout.Layout.filter_page.Goals as goal

pub returns : goal.returns
returns c =
    let s : Storage = record { attributes = c.self.inside.catalog; history = c.self.inside.versions; records = c.self.inside.records.items; cells = c.self.inside.columns.cells } in
    let lt : c.args.id.0 < length s.attributes = omega (arith, c.requires.standing, ap (λ (x : Storage). length x.attributes) c.self.view_is) in
    let a = get-within s.attributes c.args.id.0 lt in
    let told : IfSome (slice_get s.attributes c.args.id.0) (λ (x : Attribute). (x.mark ≡ None) × (x.home ≡ home.Column) × (x.kind ≡ kind.Int)) = subst (λ (x : Storage). IfSome (slice_get x.attributes c.args.id.0) (λ (y : Attribute). (y.mark ≡ None) × (y.home ≡ home.Column) × (y.kind ≡ kind.Int))) (sym c.self.view_is) c.requires.column in
    let is = if-some (slice_get s.attributes c.args.id.0) (λ (x : Attribute). (x.mark ≡ None) × (x.home ≡ home.Column) × (x.kind ≡ kind.Int)) a.0 a.1 told in
    rw (← c.self.view_is) (record {
      exact = λ w j lw lj. c.filter_page.ensures.exact w j lw lj ∙ ap (is_met c.args.test) (column-value s c.self.invariant.0 c.stored_values_are_told_apart.ensures.back (1024 * c.args.page + (64 * w + j)) c.args.id.0 a.0 a.1 is.0 is.1);
    })
