-- What reading up to a limit and writing a whole text answer.
use Rattle.std.specs.Prelude.{◌≡◌, ℕ, ◌<◌, ◌≤◌, List, [], ◌∷◌, ◌++◌, Bool, true, false, length, take, Option}
use Rattle.sinew_io.specs.Told.{Gave, Took, NothingLeft}
use Rattle.sinew_io.specs.declared.written.Written as written

-- At most so many bytes were taken from the source.
abbrev pub GaveAtMost : ℕ → Option (List ℕ) → Option (List ℕ) → Type 0
GaveAtMost most before after = (bytes : List ℕ) × (length bytes ≤ most) × Gave before after bytes

-- With no more than the limit the bytes are all that the source had; with more they are its first ones, up to the limit, and one further byte is gone.
abbrev pub ReadsUpTo : ℕ → Option (List ℕ) → Option (List ℕ) → List ℕ → Bool → Type 0
ReadsUpTo limit before after bytes false = (length bytes ≤ limit) × Gave before after bytes × NothingLeft after
ReadsUpTo limit before after bytes true = (length bytes ≡ limit) × (further : ℕ) × Gave before after (bytes ++ further ∷ [])

-- All bytes were taken, or the first n of them, fewer than all.
abbrev pub WritesAll : written.Written → Option (List ℕ) → Option (List ℕ) → List ℕ → Type 0
WritesAll written.TheVariants.Done before after bytes = Took before after bytes
WritesAll (written.TheVariants.Failed n) before after bytes = (n < length bytes) × Took before after (take n bytes)

-- The writing failed.
abbrev pub IsFailure : written.Written → Type 0
IsFailure written.TheVariants.Done = ⊥
IsFailure (written.TheVariants.Failed n) = Unit {0}
