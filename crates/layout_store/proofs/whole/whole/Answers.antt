use Rattle.std.proofs.Common.{◌≡◌, ℕ, [], length, option_map, ap, ◌∙◌}
use Rattle.doc_values.specs.Doc.{Fields}
use Rattle.phys_columns.specs.Cells.{cell_at}
use Rattle.document_records.specs.StoredValue.{bytes_of}
use Rattle.document_records.specs.StoredDocument.{pairs_of, document_with}
use Rattle.layout_store.specs.Listed.{fields_listed}
use Rattle.layout_store.proofs.PutTogether.{fields-then}
use Rattle.layout_store.proofs.whole.whole.Goals as goal

pub returns : goal.returns
returns c =
    let first : c.put_fields.new.document ≡ document_with (pairs_of c.args.catalog.now) [] c.args.stored.now = c.in_ok-put_fields.ensures.ok ∙ ap (λ (d : Fields). document_with (pairs_of c.args.catalog.now) d c.args.stored.now) c.new-document.ensures.exact in
    record { ok = fields-then (pairs_of c.args.catalog.now) c.args.stored.now (fields_listed c.args.ids.now (λ (id : ℕ). option_map bytes_of (cell_at id c.args.version c.args.columns.now.cells)) (length c.args.ids.now)) c.put_fields.new.document c.put_cells.new.document first c.in_ok-put_cells.ensures.ok }
