use Rattle.std.proofs.Common.{◌≡◌, Option, Some, slice_get, option_map, ap, sym, ◌∙◌}
use Rattle.std.proofs.lemmas.Option.{slice_get_within}
use Rattle.doc_values.specs.Doc.{with_field}
use Rattle.doc_values.specs.declared.value.Value.{Value}
use Rattle.attr_catalog.specs.Attribute.{Attribute}
use Rattle.phys_columns.specs.Cells.{cell_at}
use Rattle.document_records.specs.StoredValue.{bytes_of}
use Rattle.document_records.specs.StoredDocument.{pairs_of, document_with}
use Rattle.layout_store.specs.Documents.{field_if}
use Rattle.layout_store.proofs.Lists.{if-some}
use Rattle.layout_store.proofs.PutTogether.{put-field, cell-is}
use Rattle.layout_store.proofs.whole.put_cell.Goals as goal

pub put_value-requires-clause-standing : goal.put_value-requires-clause-standing
put_value-requires-clause-standing c =
    let cell = c.requires.celled c.args.id.0 c.in-Some.value (sym c.in_ok-value.ensures.ok ∙ c.in-Some.is) in
    slice_get_within c.args.catalog.now c.args.id.0 cell.attribute cell.there

pub put_value-requires-clause-storable : goal.put_value-requires-clause-storable
put_value-requires-clause-storable c = (c.requires.celled c.args.id.0 c.in-Some.value (sym c.in_ok-value.ensures.ok ∙ c.in-Some.is)).storable

pub returns-in_ok-put_value : goal.returns-in_ok-put_value
returns-in_ok-put_value c =
    let there : cell_at c.args.id.0 c.args.version c.args.columns.now.cells ≡ Some c.in-Some.value = sym c.in_ok-value.ensures.ok ∙ c.in-Some.is in
    let cell = c.requires.celled c.args.id.0 c.in-Some.value there in
    let put = if-some (slice_get c.args.catalog.now c.args.id.0) (λ (x : Attribute). c.put_value.new.document ≡ with_field c.args.document.now x.name c.in-Some.value) cell.attribute cell.there c.in_ok-put_value.ensures.ok in
    let is = cell-is c.stored_values_are_told_apart.ensures.back c.args.catalog.now c.args.id.0 cell.attribute c.in-Some.value cell.there cell in
    record {
      ok = put-field c.args.catalog.now c.args.id.0 cell.attribute (bytes_of c.in-Some.value) c.in-Some.value c.args.document.now c.put_value.new.document cell.there is put
          ∙ ap (λ (o : Option Value). document_with (pairs_of c.args.catalog.now) c.args.document.now (field_if c.args.id.0 (option_map bytes_of o))) (sym there);
    }
