use Rattle.std.proofs.Common.{◌≡◌, ap, sym, ◌∙◌}
use Rattle.attr_catalog.specs.Attribute.{Attribute, raised, dirtied}
use Rattle.attr_catalog.specs.Catalog.{changed}
use Rattle.attr_catalog.specs.declared.home.Home.{Home}
use Rattle.attr_catalog.specs.declared.home.Home.TheVariants as home
use Rattle.row_versions.proofs.Places.{get-within}
use Rattle.layout_store.specs.Changes.{written_to}
use Rattle.layout_store.proofs.Attributes.{then-changed}
use Rattle.layout_store.proofs.Lists.{seen-of}
use Rattle.layout_store.proofs.counting.write_one.Goals as goal

pub returns-in-Column : goal.returns-in-Column
returns-in-Column c =
    let a = get-within c.args.catalog.now c.args.id.0 c.requires.standing in
    let column : a.0.home ≡ home.Column = seen-of (λ (x : Attribute). x.home) c.args.catalog.now c.args.id.0 a.0 c.home-home.result a.1 c.home-home.ensures.exact ∙ c.in-Column.is in
    record {
      exact = c.mark_dirty.ensures.exact ∙ ap (changed (dirtied c.args.version) c.args.id) c.raise.ensures.exact
          ∙ then-changed raised (dirtied c.args.version) (λ (x : Attribute). written_to x.home c.args.version x) c.args.id c.args.catalog.now a.0 a.1 (ap (λ (t : Home). written_to t c.args.version a.0) (sym column));
    }
