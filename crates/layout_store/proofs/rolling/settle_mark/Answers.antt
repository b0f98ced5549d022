use Rattle.std.proofs.Common.{unwrap_or, ◌≡◌, arith}
use Rattle.attr_catalog.specs.Attribute.{Attribute}
use Rattle.row_versions.proofs.Places.{get-within}
use Rattle.layout_store.proofs.Lists.{seen-of}
use Rattle.layout_store.proofs.Settled.{settles-gone, settles-stays}
use Rattle.layout_store.proofs.rolling.settle_mark.Goals as goal

pub returns-then-versions-clean_to : goal.returns-then-versions-clean_to
returns-then-versions-clean_to c =
    let a = get-within c.args.catalog.now c.args.id.0 c.requires.standing in
    let mark : unwrap_or a.0.mark 0 ≡ c.clean_to.result = seen-of (λ (x : Attribute). unwrap_or x.mark 0) c.args.catalog.now c.args.id.0 a.0 c.clean_to.result a.1 c.clean_to.ensures.exact in
    rw c.clear_dirty.ensures.exact (record { exact = settles-gone c.args.versions c.args.id c.args.catalog.now a.0 a.1 (omega (arith, mark, c.if-versions-clean_to.true)) })

pub returns-else-versions-clean_to : goal.returns-else-versions-clean_to
returns-else-versions-clean_to c =
    let a = get-within c.args.catalog.now c.args.id.0 c.requires.standing in
    let mark : unwrap_or a.0.mark 0 ≡ c.clean_to.result = seen-of (λ (x : Attribute). unwrap_or x.mark 0) c.args.catalog.now c.args.id.0 a.0 c.clean_to.result a.1 c.clean_to.ensures.exact in
    record { exact = settles-stays c.args.versions c.args.id c.args.catalog.now a.0 a.1 (omega (arith, mark, c.if-versions-clean_to.false)) }
