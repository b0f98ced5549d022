use Rattle.std.proofs.Common.{sym}
use Rattle.std.proofs.lemmas.List.FromFn.{length-map-range_with_len}
use Rattle.row_columns.specs.Placed.{row_at}
use Rattle.row_columns.proofs.table_rows.TableRows.len.Goals as goal

pub returns : goal.returns
returns c = record { exact = rw (← c.self.view_is) (sym (length-map-range_with_len (row_at c.self.inside.columns.items c.self.inside.docs.items) 0 c.self.inside.rows)) }
