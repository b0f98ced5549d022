-- What one read of a whole reading does to the bytes that are held so far.
use Rattle.std.specs.Prelude.{◌≡◌, ℕ, ◌<◌, ◌≤◌, ◌+◌, ◌-◌, List, [], ◌∷◌, ◌++◌, length, Option, Result, Ok, Err}
use Rattle.sinew_io.specs.Told.{Gave, NothingLeft}
use Rattle.sinew_io.specs.Whole.{GaveAtMost}
use Rattle.sinew_io.specs.declared.piece.Piece as piece
use Rattle.sinew_io.specs.declared.take_fault.TakeFault as fault

-- A piece within the limit joins the bytes held, the end leaves them, and one byte beyond the limit is taken and not held; after a fault no more is gone than the rest up to that byte.
abbrev pub ReadsPiece : Result piece.Piece fault.TakeFault → ℕ → Option (List ℕ) → Option (List ℕ) → List ℕ → List ℕ → Type 0
ReadsPiece (Ok piece.TheVariants.Within) limit before after held now = (bytes : List ℕ) × (0 < length bytes) × (length now ≤ limit) × (now ≡ held ++ bytes) × Gave before after bytes
ReadsPiece (Ok piece.TheVariants.End) limit before after held now = (now ≡ held) × (after ≡ before) × NothingLeft after
ReadsPiece (Ok piece.TheVariants.Beyond) limit before after held now = (bytes : List ℕ) × (further : ℕ) × (length now ≡ limit) × (now ≡ held ++ bytes) × Gave before after (bytes ++ further ∷ [])
ReadsPiece (Err reason) limit before after held now = GaveAtMost (limit + 1 - length held) before after
