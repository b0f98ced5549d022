use Rattle.std.proofs.Common.{◌≡◌, sym, ap, ◌∙◌, arith}
use Rattle.row_versions.specs.History.{rows_of}
use Rattle.scan_batches.proofs.SeenRows.{unborn}
use Rattle.scan_batches.proofs.finding.seen_in.Goals as goal

pub returns-else-row-rows : goal.returns-else-row-rows
returns-else-row-rows c =
    let versions = c.args.layout.now.history.versions in
    let many : c.rows.result ≡ rows_of versions = c.rows.ensures.exact ∙ ap (λ h. rows_of h.versions) c.versions.ensures.exact in
    record { exact = sym (unborn versions c.args.at c.args.row (omega (arith, c.if-row-rows.false, many))) }
