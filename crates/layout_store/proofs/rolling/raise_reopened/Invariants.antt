use Rattle.std.proofs.Common.{ℕ, ◌&&◌, is_some}
use Rattle.layout_store.specs.Changes.{AreChanged}
use Rattle.layout_store.specs.Documents.{count_below}
use Rattle.layout_store.specs.RolledBack.{held_in, is_reopened, raised_by}
use Rattle.layout_store.proofs.rolling.raise_reopened.Given as goal

abbrev pub invariant-loop-version : goal.invariant-loop-version
invariant-loop-version l = AreChanged (λ id. raised_by (count_below (λ (v : ℕ). is_reopened l.commit l.versions.versions v && is_some (held_in l.records l.columns.cells v id)) l.version)) l.fn.catalog l.catalog
