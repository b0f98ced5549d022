use Rattle.row_columns.proofs.Numbered.{all_alone}
use Rattle.row_columns.proofs.tuples.Tuples.over.Goals as goal

pub returns : goal.returns
returns c = record { ok = rw (c.in_ok-tables.ensures.ok, c.in_ok-places.ensures.ok) (all_alone c.args.table c.len.result c.len.ensures.exact) }
