-- Counts of faults: they never fall, and a count that cannot rise further stands still.
use Rattle.std.specs.Prelude.{ℕ, ◌+◌, ◌-◌, ◌^◌, ◌≤◌, min}

-- A count of 64 bits one higher, or as it is at the end of its type.
abbrev pub raised : ℕ → ℕ
raised count = min (count + 1) (2 ^ 64 - 1)

-- The count rose: it is greater than before, or it stands at the end of its type.
abbrev pub Rose : ℕ → ℕ → Type 0
Rose before now = raised before ≤ now

-- A count never falls, and a failure comes only where it rose.
pub record HasCause (before now : ℕ) (Failed : Type 0) : Type 0 where
  pub later : before ≤ now
  pub failed : Failed → Rose before now
