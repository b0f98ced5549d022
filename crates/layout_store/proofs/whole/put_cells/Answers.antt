use Rattle.std.proofs.Common.{◌≡◌, ℕ, length, option_map, refl, ap, ◌∙◌, arith}
use Rattle.phys_columns.specs.Cells.{cell_at}
use Rattle.document_records.specs.StoredValue.{bytes_of}
use Rattle.document_records.specs.StoredDocument.{pairs_of, document_with}
use Rattle.layout_store.specs.Listed.{fields_listed}
use Rattle.layout_store.proofs.PutTogether.{cells-next}
use Rattle.layout_store.proofs.whole.put_cells.Goals as goal

pub loop-place-init : goal.loop-place-init
loop-place-init c = refl

pub loop-place-preserved : goal.loop-place-preserved
loop-place-preserved c =
    cells-next (pairs_of c.args.catalog.now) c.args.ids.now (λ (id : ℕ). option_map bytes_of (cell_at id c.args.version c.args.columns.now.cells)) c.loop-place.place c.id.result c.args.document.now c.loop-place.document c.put_cell.new.document c.id.ensures.exact c.loop-place.invariant c.in_ok-put_cell.ensures.ok

pub returns : goal.returns
returns c =
    let all : c.loop-place.place ≡ length c.args.ids.now = omega (arith, c.loop-place-test.false, c.len-place-end.ensures.exact) in
    record { ok = c.loop-place.invariant ∙ ap (λ (n : ℕ). document_with (pairs_of c.args.catalog.now) c.args.document.now (fields_listed c.args.ids.now (λ (id : ℕ). option_map bytes_of (cell_at id c.args.version c.args.columns.now.cells)) n)) all }
