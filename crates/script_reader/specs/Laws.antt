-- What follows from the rules that the lines of a script keep.
use Rattle.std.specs.Prelude.{◌≡◌, ℕ, ◌<◌, ◌^◌, List, Some, slice_get}
use Rattle.std.specs.List.{Contains}
use Rattle.script_reader.specs.declared.line.Line.{Line}

-- Two lines with the same session and place are one line.
abbrev pub AreToldApart : List Line → Type 0
AreToldApart lines = (i j : ℕ) (l m : Line) → slice_get lines i ≡ Some l → slice_get lines j ≡ Some m → l.session ≡ m.session → l.place ≡ m.place → i ≡ j

-- A line that is followed stands above the one that follows it.
abbrev pub FollowLinesAbove : List Line → Type 0
FollowLinesAbove lines = (k : ℕ) (l : Line) (i j : ℕ) → slice_get lines k ≡ Some l → slice_get l.follows i ≡ Some j → j < k

-- The same, of the lines that a line's list contains.
abbrev pub ContainLinesAbove : List Line → Type 0
ContainLinesAbove lines = (k : ℕ) (l : Line) (j : ℕ) → slice_get lines k ≡ Some l → Contains l.follows j → j < k

-- The session and the place of a line are numbers of 32 bits.
abbrev pub HaveSmallNumbers : List Line → Type 0
HaveSmallNumbers lines = (k : ℕ) (l : Line) → slice_get lines k ≡ Some l → (l.session < 2 ^ 32) × (l.place < 2 ^ 32)
