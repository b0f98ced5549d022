use Rattle.std.proofs.Common.{length, sym, ap, ◌∙◌}
use Rattle.scan_batches.specs.Filled.{RowsOf}
use Rattle.scan_batches.proofs.Even.{rows-many}
use Rattle.scan_batches.proofs.read_rows.ReadRows.len.Goals as goal

pub returns : goal.returns
returns c =
    let r = c.self.inside in
    record { exact = sym (rows-many r.count r.columns.items r.docs.items) ∙ ap (λ (v : RowsOf). length v.rows) c.self.view_is }
