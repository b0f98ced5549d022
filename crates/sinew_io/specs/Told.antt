-- What a source still has to give, and what a sink has taken, where that is told.
use Rattle.std.specs.Prelude.{◌≡◌, ℕ, List, [], ◌++◌, Option, Some, None}

-- A source gave these bytes, and its rest is left. One that tells what is left goes on telling it.
abbrev pub Gave : Option (List ℕ) → Option (List ℕ) → List ℕ → Type 0
Gave None after bytes = Unit {0}
Gave (Some left) None bytes = ⊥
Gave (Some left) (Some after) bytes = left ≡ bytes ++ after

-- A sink took these bytes behind what it had. One that tells what it has taken told it before.
abbrev pub Took : Option (List ℕ) → Option (List ℕ) → List ℕ → Type 0
Took before None bytes = Unit {0}
Took None (Some after) bytes = ⊥
Took (Some before) (Some after) bytes = after ≡ before ++ bytes

-- A source that tells what is left tells that nothing is.
abbrev pub NothingLeft : Option (List ℕ) → Type 0
NothingLeft None = Unit {0}
NothingLeft (Some left) = left ≡ []
