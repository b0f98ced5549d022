use Rattle.std.proofs.Common.{◌∙◌, sym}
use Rattle.row_columns.proofs.Numbered.{no_number, no_table, cell_there}
use Rattle.row_columns.proofs.sides.Sides.cell.Goals as goal

pub returns-in_default : goal.returns-in_default
returns-in_default c =
    let s = c.self.inside in
    record { exact = rw (← c.self.view_is) (sym (no_number s.tables.now s.place.rows c.args.table c.args.column (sym c.in_default.ensures.exact))) }

pub returns-in_default-rows_in : goal.returns-in_default-rows_in
returns-in_default-rows_in c =
    let s = c.self.inside in
    record { exact = rw (← c.self.view_is) (sym (no_table s.tables.now s.place.rows c.args.table c.args.column (sym c.in_default-rows_in.ensures.exact))) }

pub returns : goal.returns
returns c =
    let s = c.self.inside in
    record { exact = rw (← c.self.view_is) (c.cell.ensures.exact ∙ sym (cell_there s.tables.now s.place.rows c.args.table c.args.column c.in-Some.row c.in-Some-rows_in.rows.now (sym c.in-Some.ensures.exact) (sym c.in-Some-rows_in.ensures.exact))) }
