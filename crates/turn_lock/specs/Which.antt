-- Which lock it is.
use Rattle.std.specs.Prelude.{ℕ}
use Rattle.atomic_table.specs.Seated.{TableId}

-- A lock as its callers see it: what no other lock shares with it, and how many passes it may have
pub record Which : Type 0 where
  pub id : TableId
  pub passes : ℕ
