use Rattle.std.proofs.Common.{◌≡◌, IsSome, slice_get, unwrap_or, sym, ◌∙◌}
use Rattle.attr_catalog.specs.Attribute.{Attribute}
use Rattle.row_versions.proofs.Places.{get-within}
use Rattle.layout_store.proofs.Lists.{seen-of, if-some}
use Rattle.layout_store.proofs.Moves.{kept-now}
use Rattle.layout_store.proofs.moving.step_mark.Goals as goal

pub returns-else-clean_to-version : goal.returns-else-clean_to-version
returns-else-clean_to-version c =
    let a = get-within c.args.catalog.now c.args.id.0 c.requires.standing in
    let dirty : IsSome a.0.mark = if-some (slice_get c.args.catalog.now c.args.id.0) (λ (x : Attribute). IsSome x.mark) a.0 a.1 c.requires.dirty in
    let at : unwrap_or a.0.mark 0 ≡ c.clean_to.result = seen-of (λ (x : Attribute). unwrap_or x.mark 0) c.args.catalog.now c.args.id.0 a.0 c.clean_to.result a.1 c.clean_to.ensures.exact in
    record { exact = kept-now c.args.catalog.now c.args.id c.args.version a.0 a.1 dirty (λ e. c.if-clean_to-version.false (sym at ∙ e)) }
