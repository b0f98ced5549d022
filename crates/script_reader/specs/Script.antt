-- Which lines are a script, which bytes it is the script of, and which fault other bytes have, with no word on how either is found.
use Rattle.std.specs.Prelude.{◌≡◌, ◌↔◌, ◌⊎◌, ℕ, ◌+◌, ◌<◌, ◌≤◌, List, [], ◌∷◌, ◌++◌, length, take, count_by, Some, slice_get}
use Rattle.std.specs.List.{Contains}
use Rattle.std.specs.List.Sorted.{IsStrictlyIncreasing}
use Rattle.script_reader.specs.Pieces.{nothing, statement, bad, said, pieces_of, most_lines}
use Rattle.script_reader.specs.Sessions.{IsSession, is_said_by}
use Rattle.script_reader.specs.declared.line.Line.{Line}
use Rattle.script_reader.specs.declared.script_fault.ScriptFault.{ScriptFault}
use Rattle.script_reader.specs.declared.why.Why as why

-- The most bytes that a script may have: 64 MiB.
abbrev pub most_script_bytes : ℕ
most_script_bytes = 67108864

-- The line at a position has its place: so many lines of its session stand up to it, itself counted.
abbrev pub HasPlace : List Line → ℕ → Line → Type 0
HasPlace lines at line = line.place ≡ count_by (is_said_by line.session) (take (at + 1) lines)

-- A line of the session stands at the upper position, above the lower one.
pub record StandsAbove (lines : List Line) (session upper lower : ℕ) : Type 0 where
  pub line : Line
  pub stands : slice_get lines upper ≡ Some line
  pub said_by : line.session ≡ session
  pub above : upper < lower

-- The line at the upper position is the last of the session above the lower one.
pub record IsLastAbove (lines : List Line) (session upper lower : ℕ) : Type 0 where
  pub stands : StandsAbove lines session upper lower
  pub last : (other : ℕ) → StandsAbove lines session other lower → other ≤ upper

-- The line at a position follows the last line of its session above it, if there is one, and none but lines above it. The positions of those that it follows ascend, so each stands there once.
pub record FollowsAbove (lines : List Line) (at : ℕ) (line : Line) : Type 0 where
  pub last : (upper : ℕ) → IsLastAbove lines line.session upper at → Contains line.follows upper
  pub above : (upper : ℕ) → Contains line.follows upper → upper < at
  pub ascending : IsStrictlyIncreasing line.follows

-- The rules that the lines of a script keep: the session of each exists, each has its place in it and follows the last one of it and lines above alone, and there are at most as many as a script may have.
pub record IsScript (lines : List Line) : Type 0 where
  pub known : (at : ℕ) (line : Line) → slice_get lines at ≡ Some line → IsSession line.session
  pub placed : (at : ℕ) (line : Line) → slice_get lines at ≡ Some line → HasPlace lines at line
  pub following : (at : ℕ) (line : Line) → slice_get lines at ≡ Some line → FollowsAbove lines at line
  pub few : length lines ≤ most_lines

-- A line follows exactly the last line of its session above it, and the lines that it names.
abbrev pub Follows : List Line → List ℕ → Line → Type 0
Follows above named line = (upper : ℕ) → Contains line.follows upper ↔ (IsLastAbove above line.session upper (length above) ⊎ Contains named upper)

-- The pieces make the lines: numbered on from a number, with the lines above them, none is bad, and each that holds a statement is the next line, with its session and its text, and follows the lines that it has to.
pub data MakeLines : ℕ → List Line → List (List ℕ) → List Line → Type 0 where
  none_left : {number : ℕ} {above : List Line} → MakeLines number above [] []
  no_line : {number : ℕ} {above lines : List Line} {piece : List ℕ} {pieces : List (List ℕ)} →
      said number above piece ≡ nothing → MakeLines (number + 1) above pieces lines → MakeLines number above (piece ∷ pieces) lines
  one_line : {number : ℕ} {above lines : List Line} {piece named : List ℕ} {pieces : List (List ℕ)} {line : Line} →
      said number above piece ≡ statement line.session named line.text → Follows above named line →
      MakeLines (number + 1) (above ++ line ∷ []) pieces lines → MakeLines number above (piece ∷ pieces) (line ∷ lines)

-- The bytes are the script of these lines: there are not too many, the pieces make the lines, and these keep the rules of a script.
pub record IsScriptOf (bytes : List ℕ) (lines : List Line) : Type 0 where
  pub short : length bytes ≤ most_script_bytes
  pub made : MakeLines 1 [] (pieces_of bytes) lines
  pub keeps : IsScript lines

-- The bytes are no script, for this fault: there are too many; or the pieces in front make lines that keep the rules, and below these the piece of its number is bad for its reason.
pub data HasFault (bytes : List ℕ) : ScriptFault → Type 0 where
  too_many : most_script_bytes < length bytes → HasFault bytes (record { line = 0; why = why.TheVariants.Size })
  bad_piece : (front behind : List (List ℕ)) (piece : List ℕ) (above : List Line) (reason : why.Why) → length bytes ≤ most_script_bytes →
      pieces_of bytes ≡ front ++ piece ∷ behind → MakeLines 1 [] front above → IsScript above → said (length front + 1) above piece ≡ bad reason →
      HasFault bytes (record { line = length front + 1; why = reason })
