use Rattle.std.proofs.Common.{◌≡◌, ◌≤◌, ◌∙◌, List, map, sym, ap, subst, arith}
use Rattle.row_versions.specs.History.{History, rows_of}
use Rattle.query_meaning.specs.Plans.{rows_alone}
use Rattle.layout_store.specs.Storage.{Storage}
use Rattle.shown_rows.specs.Rows.{Row, rows_at}
use Rattle.scan_batches.specs.Scans.{ScanOf}
use Rattle.commit_core.specs.Stored.{Stored}
use Rattle.commit_core.proofs.Scanned.{whole-scan, all-passed}
use Rattle.commit_core.proofs.table.Table.rows.Goals as goal

pub returns : goal.returns
returns c =
    let s = c.self.inside.layout in
    let plan = c.args.plan.now in
    let columns = c.args.columns.now in
    let began = c.in_ok-scan.scan in
    let after = c.batch.new.scan in
    let ok = c.in_ok-scan.ensures.ok in
    let same = c.in_ok-batch.ensures.same in
    let rows : c.rows-rows.result ≡ rows_of s.history.versions = c.rows-rows.ensures.exact ∙ ap (λ (h : History). rows_of h.versions) c.versions.ensures.exact in
    let settled : s.history.horizon ≤ c.args.now = subst (λ (t : Stored). t.storage.history.horizon ≤ c.args.now) (sym c.self.view_is) c.requires.settled.horizon in
    let reached : s.history.horizon ≤ began.at = omega (arith, ap (λ (x : ScanOf). x.at) ok, settled) in
    let enough : rows_of s.history.versions ≤ c.max.result = omega (arith, c.max.ensures, rows) in
    let next = c.in_ok-batch.ensures.passed reached ∙ all-passed c.max.result began after (rows_of s.history.versions) (ap (λ (x : ScanOf). x.next_row) ok) (ap (λ (x : ScanOf). x.end_row) ok) enough in
    let read = c.in_ok-batch.ensures.read c.in_ok-scan.ensures.read in
    let whole = whole-scan s after plan columns c.args.now (same.at ∙ ap (λ (x : ScanOf). x.at) ok) next (same.refs ∙ ap (λ (x : ScanOf). x.refs) ok) (same.star ∙ ap (λ (x : ScanOf). x.star) ok) (same.test ∙ ap (λ (x : ScanOf). x.test) ok)
    (same.most ∙ ap (λ (x : ScanOf). x.most) ok ∙ c.most_needed-most.ensures.exact) in
    record { ok = c.into_rows.ensures.exact ∙ read ∙ whole ∙ ap (λ (t : Stored). rows_alone plan columns (map (λ (row : Row). row.document) (rows_at t.storage c.args.now))) c.self.view_is }
