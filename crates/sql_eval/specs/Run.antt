-- How a pattern is taken run by run, each of them up to a `%`.
use Rattle.std.specs.Prelude.{◌≡◌, ℕ, ◌<◌, ◌≤◌, Bool, true, false, List, length, if◌then◌else◌}
use Rattle.std.specs.List.{list_any}
use Rattle.std.specs.Str.{chars}
use Rattle.sql_eval.specs.declared.run.Run.{Run}
use Rattle.sql_eval.specs.declared.run.Run.TheVariants as run
use Rattle.sql_eval.specs.Like.{are_like, ends}

-- Some end of the characters is like the pattern.
abbrev pub some_end : List ℕ → List ℕ → Bool
some_end ps cs = list_any (are_like ps) (ends cs)

-- The characters are like the pattern, or some end of them is where it may begin anywhere.
abbrev pub like_from : Bool → List ℕ → List ℕ → Bool
like_from anywhere ps cs = if anywhere then some_end ps cs else are_like ps cs

-- What a run says of a text and a pattern: whether the pattern ends there and the text with it, or what has to be so behind its `%`.
abbrev pub IsRun : List ℕ → List ℕ → Run → Type 0
IsRun ps cs run.Mismatch = are_like ps cs ≡ false
IsRun ps cs run.Whole = are_like ps cs ≡ true
IsRun ps cs (run.Star text pattern) = (anywhere : Bool) → like_from anywhere ps cs ≡ some_end (chars pattern.now) (chars text.now)

-- What is left behind a run is no longer than what was, and the pattern is shorter.
abbrev pub IsShorter : List ℕ → List ℕ → Run → Type 0
IsShorter pattern text run.Mismatch = Unit {0}
IsShorter pattern text run.Whole = Unit {0}
IsShorter pattern text (run.Star t p) = (length t.now ≤ length text) × (length p.now < length pattern)
