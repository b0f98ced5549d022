-- What a source over memory gives.
use Rattle.std.specs.Prelude.{ℕ, List, length, drop, min, if◌then◌else◌, ◌==◌}
use Rattle.sinew_io.specs.declared.got.Got as got

-- The bytes that a source has left, and how many it gives in one call at most.
pub record Supply : Type 0 where
  pub left : List ℕ
  pub piece : ℕ

-- How many bytes a call gives into a buffer of this size.
abbrev pub given_count : Supply → ℕ → ℕ
given_count supply size = min supply.piece (min size (length supply.left))

-- What the call answers.
abbrev pub supply_answer : Supply → ℕ → got.Got
supply_answer supply size = if given_count supply size == 0 then got.TheVariants.End else got.TheVariants.Bytes (given_count supply size)

-- The source after the call.
abbrev pub supply_after : Supply → ℕ → Supply
supply_after supply size = record supply { left = drop (given_count supply size) supply.left }
