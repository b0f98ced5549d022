use Rattle.std.proofs.Common.{ℕ, ◌&&◌, nat_le, is_some}
use Rattle.layout_store.specs.Changes.{AreChanged}
use Rattle.layout_store.specs.Documents.{count_below}
use Rattle.layout_store.specs.RolledBack.{held_in, lowered_by}
use Rattle.layout_store.proofs.Taken.{AreCleared}
use Rattle.layout_store.proofs.rolling.take_back.Given as goal

abbrev pub invariant-loop-version : goal.invariant-loop-version
invariant-loop-version l = AreChanged (λ id. lowered_by (count_below (λ (v : ℕ). nat_le l.len v && is_some (held_in l.records l.fn.columns.cells v id)) l.version)) l.fn.catalog l.catalog × AreCleared l.len l.version l.fn.columns.cells l.columns.cells
