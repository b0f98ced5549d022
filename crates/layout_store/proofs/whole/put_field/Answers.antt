use Rattle.std.proofs.Common.{◌≡◌, ◌<◌, ℕ, List, Some, length, slice_get, ap, sym, subst, ◌∙◌}
use Rattle.doc_values.specs.Doc.{with_field}
use Rattle.doc_values.specs.declared.kind.Kind.{Kind}
use Rattle.reservoir_record.specs.declared.fields.Field.{Field}
use Rattle.reservoir_record.specs.Finding.{value_of}
use Rattle.attr_catalog.specs.Attribute.{Attribute}
use Rattle.row_versions.proofs.Places.{get-within}
use Rattle.document_records.specs.StoredValue.{AreReadable, value_in}
use Rattle.document_records.specs.StoredDocument.{pairs_of, with_stored}
use Rattle.layout_store.proofs.ByFields.{field-found}
use Rattle.layout_store.proofs.Lists.{seen-of, if-some, if-there}
use Rattle.layout_store.proofs.PutTogether.{put-field}
use Rattle.layout_store.proofs.whole.put_field.Goals as goal

pub kind-requires : goal.kind-requires
kind-requires c =
    let f = get-within c.args.stored.now c.args.place c.requires.within in
    let numbered : f.0.id ≡ c.id.result = seen-of (λ (x : Field). x.id) c.args.stored.now c.args.place f.0 c.id.result f.1 c.id.ensures.exact in
    let found : value_of c.id.result c.args.stored.now ≡ Some f.0.bytes = ap (λ (n : ℕ). value_of n c.args.stored.now) (sym numbered) ∙ field-found c.args.stored.now c.requires.lawful c.args.place f.0 f.1 in
    let lt : c.id.result < length c.args.catalog.now = c.requires.known c.id.result f.0.bytes found in
    lt

pub read_value-requires : goal.read_value-requires
read_value-requires c =
    let f = get-within c.args.stored.now c.args.place c.requires.within in
    let numbered : f.0.id ≡ c.id.result = seen-of (λ (x : Field). x.id) c.args.stored.now c.args.place f.0 c.id.result f.1 c.id.ensures.exact in
    let found : value_of c.id.result c.args.stored.now ≡ Some f.0.bytes = ap (λ (n : ℕ). value_of n c.args.stored.now) (sym numbered) ∙ field-found c.args.stored.now c.requires.lawful c.args.place f.0 f.1 in
    let lt : c.id.result < length c.args.catalog.now = c.requires.known c.id.result f.0.bytes found in
    let a = get-within c.args.catalog.now c.id.result lt in
    let kind : a.0.kind ≡ c.kind.result = seen-of (λ (x : Attribute). x.kind) c.args.catalog.now c.id.result a.0 c.kind.result a.1 c.kind.ensures.exact in
    let has : f.0.bytes ≡ c.bytes.result.now = seen-of (λ (x : Field). x.bytes) c.args.stored.now c.args.place f.0 c.bytes.result.now f.1 c.bytes.ensures.exact in
    subst (λ (b : List ℕ). AreReadable c.kind.result b) has (subst (λ (k : Kind). AreReadable k f.0.bytes) kind (if-some (value_of c.id.result c.args.stored.now) (AreReadable a.0.kind) f.0.bytes found (c.requires.readable c.id.result a.0 a.1)))

pub returns : goal.returns
returns c =
    let f = get-within c.args.stored.now c.args.place c.requires.within in
    let numbered : f.0.id ≡ c.id.result = seen-of (λ (x : Field). x.id) c.args.stored.now c.args.place f.0 c.id.result f.1 c.id.ensures.exact in
    let found : value_of c.id.result c.args.stored.now ≡ Some f.0.bytes = ap (λ (n : ℕ). value_of n c.args.stored.now) (sym numbered) ∙ field-found c.args.stored.now c.requires.lawful c.args.place f.0 f.1 in
    let lt : c.id.result < length c.args.catalog.now = c.requires.known c.id.result f.0.bytes found in
    let a = get-within c.args.catalog.now c.id.result lt in
    let kind : a.0.kind ≡ c.kind.result = seen-of (λ (x : Attribute). x.kind) c.args.catalog.now c.id.result a.0 c.kind.result a.1 c.kind.ensures.exact in
    let has : f.0.bytes ≡ c.bytes.result.now = seen-of (λ (x : Field). x.bytes) c.args.stored.now c.args.place f.0 c.bytes.result.now f.1 c.bytes.ensures.exact in
    let put = if-some (slice_get c.args.catalog.now c.id.result) (λ (x : Attribute). c.put_value.new.document ≡ with_field c.args.document.now x.name c.in_ok-value.value) a.0 a.1 c.in_ok-put_value.ensures.ok in
    let is : c.in_ok-value.value ≡ value_in a.0.kind f.0.bytes = c.in_ok-value.ensures.ok ∙ ap (λ (k : Kind). value_in k c.bytes.result.now) (sym kind) ∙ ap (value_in a.0.kind) (sym has) in
    let made = put-field c.args.catalog.now c.id.result a.0 f.0.bytes c.in_ok-value.value c.args.document.now c.put_value.new.document a.1 is put in
    let field : c.put_value.new.document ≡ with_stored (pairs_of c.args.catalog.now) f.0 c.args.document.now = made ∙ ap (λ (n : ℕ). with_stored (pairs_of c.args.catalog.now) (record { id = n; bytes = f.0.bytes }) c.args.document.now) (sym numbered) in
    record { ok = if-there (slice_get c.args.stored.now c.args.place) (λ (x : Field). c.put_value.new.document ≡ with_stored (pairs_of c.args.catalog.now) x c.args.document.now) f.0 f.1 field }
