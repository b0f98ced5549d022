-- What one call of a source or a sink may answer.
use Rattle.std.specs.Prelude.{◌≡◌, ℕ, ◌<◌, ◌≤◌, List, length, take, Option}
use Rattle.sinew_io.specs.Told.{Gave, Took, NothingLeft}
use Rattle.sinew_io.specs.declared.got.Got as got
use Rattle.sinew_io.specs.declared.put.Put as put

-- A read that moved n bytes put the next n into the buffer; the end comes where nothing is left, where that is told; a failure moves nothing.
abbrev pub Reads : got.Got → Option (List ℕ) → Option (List ℕ) → List ℕ → Type 0
Reads (got.TheVariants.Bytes n) before after buffer = (0 < n) × (n ≤ length buffer) × Gave before after (take n buffer)
Reads got.TheVariants.End before after buffer = (after ≡ before) × NothingLeft after
Reads got.TheVariants.Failed before after buffer = after ≡ before

-- A write that moved n bytes appended the first n of the piece; a failure moves nothing.
abbrev pub Writes : put.Put → Option (List ℕ) → Option (List ℕ) → List ℕ → Type 0
Writes (put.TheVariants.Bytes n) before after piece = (0 < n) × (n ≤ length piece) × Took before after (take n piece)
Writes put.TheVariants.Failed before after piece = after ≡ before
