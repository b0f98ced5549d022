use Rattle.std.proofs.Common.{◌≡◌, ℕ, option_map}
use Rattle.phys_columns.specs.Cells.{cell_at}
use Rattle.document_records.specs.StoredValue.{bytes_of}
use Rattle.document_records.specs.StoredDocument.{pairs_of, document_with}
use Rattle.layout_store.specs.Listed.{fields_listed}
use Rattle.layout_store.proofs.whole.put_cells.Given as goal

abbrev pub invariant-loop-place : goal.invariant-loop-place
invariant-loop-place l = l.document ≡ document_with (pairs_of l.catalog) l.fn.document (fields_listed l.ids (λ (id : ℕ). option_map bytes_of (cell_at id l.version l.columns.cells)) l.place)
