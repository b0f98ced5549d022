use Rattle.std.proofs.Common.{◌∙◌, sym}
use Rattle.row_columns.proofs.Numbered.{cell_within, cell_beyond}
use Rattle.row_columns.proofs.table_rows.TableRows.cell.Goals as goal

pub returns-then-row-self : goal.returns-then-row-self
returns-then-row-self c =
    let s = c.self.inside in
    record { exact = rw (← c.self.view_is, cell_within s.rows s.columns.items s.docs.items c.args.row c.args.column c.if-row-self.true, ← c.deref.ensures.value) c.cell_in.ensures.exact }

pub returns-else-row-self : goal.returns-else-row-self
returns-else-row-self c =
    let s = c.self.inside in
    record { exact = rw (← c.self.view_is) (sym (cell_beyond s.rows s.columns.items s.docs.items c.args.row c.args.column c.if-row-self.false)) }
