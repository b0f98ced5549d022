use Rattle.std.proofs.Common.{ap, arith}
use Rattle.row_versions.specs.History.{History, rows_of}
use Rattle.row_versions.proofs.Rows.{rows-are, rows-few}
use Rattle.row_versions.proofs.versions.Versions.rows.Goals as goal

pub overflow_cast-result : goal.overflow_cast-result
overflow_cast-result c = omega (arith, rows-few c.self.inside.list.versions c.self.inside.lasts.items c.self.invariant.newest, c.self.invariant.kept.few, c.self.inside.lasts.ok.0)

pub returns : goal.returns
returns c = record {
  exact =
      omega (arith, rows-are c.self.inside.list.versions c.self.inside.lasts.items c.self.invariant.newest, c.self.inside.lasts.ok.0, ap (λ (h : History). rows_of h.versions) c.self.view_is);
}
