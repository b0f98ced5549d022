use Rattle.std.proofs.Common.{◌∙◌, string_bytes, sym, ap}
use Rattle.std.proofs.lemmas.Result.{err_from_is_err_and}
use Rattle.row_columns.proofs.Texts.{values_kept, value_pushed, cells_pushed}
use Rattle.row_columns.proofs.cell_column.CellColumn.push.Goals as goal

pub returns-in_err-cell-clause-memory : goal.returns-in_err-cell-clause-memory
returns-in_err-cell-clause-memory c =
    let s = c.self.inside in
    let n = c.cell_for.new in
    let p = err_from_is_err_and c.from_residual.result c.from_residual.ensures.1 in
    rw (p.1, ← c.self.view_is) (values_kept (string_bytes s.texts) s.wides.items (string_bytes n.texts) n.wides.items c.cell_for.ensures.kept s.cells.items c.self.invariant)

pub returns-in_err-push-clause-memory : goal.returns-in_err-push-clause-memory
returns-in_err-push-clause-memory c =
    let s = c.self.inside in
    let n = c.cell_for.new in
    let p = err_from_is_err_and c.from_residual-in_err-push.result c.from_residual-in_err-push.ensures.1 in
    rw (p.1, ← c.self.view_is, c.in_err-push.ensures.items) (values_kept (string_bytes s.texts) s.wides.items (string_bytes n.texts) n.wides.items c.cell_for.ensures.kept s.cells.items c.self.invariant)

pub returns-clause-ok : goal.returns-clause-ok
returns-clause-ok c =
    let s = c.self.inside in
    let n = c.cell_for.new in
    rw (← c.self.view_is)
    (value_pushed (string_bytes s.texts) s.wides.items (string_bytes n.texts) n.wides.items s.cells.items c.push.new.self.items c.in_ok-cell.cell _ c.cell_for.ensures.kept c.self.invariant c.in_ok-push.ensures.items (c.in_ok-cell.ensures.ok.1))
