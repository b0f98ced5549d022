use Rattle.std.proofs.Common.{◌≡◌, Some, ap, sym, subst, ◌∙◌}
use Rattle.std.specs.Prelude.{option_copied}
use Rattle.doc_values.specs.declared.kind.Kind.{Kind}
use Rattle.reservoir_record.specs.Finding.{value_of}
use Rattle.attr_catalog.specs.Attribute.{Attribute}
use Rattle.row_versions.proofs.Places.{get-within}
use Rattle.document_records.specs.StoredValue.{AreReadable}
use Rattle.layout_store.proofs.Lists.{seen-of, if-some}
use Rattle.layout_store.proofs.reading.read_field.Goals as goal

pub read_lent-requires : goal.read_lent-requires
read_lent-requires c =
    let a = get-within c.args.catalog.now c.args.id.0 c.requires.standing in
    let kind : a.0.kind ≡ c.kind.result = seen-of (λ (x : Attribute). x.kind) c.args.catalog.now c.args.id.0 a.0 c.kind.result a.1 c.kind.ensures.exact in
    let found : value_of c.args.id.0 c.args.stored.now ≡ Some c.in-Some.bytes.now = sym c.find.ensures.exact ∙ ap option_copied c.in-Some.is in
    subst (λ (k : Kind). AreReadable k c.in-Some.bytes.now) kind (if-some (value_of c.args.id.0 c.args.stored.now) (AreReadable a.0.kind) c.in-Some.bytes.now found (c.requires.readable c.args.id.0 a.0 a.1))
