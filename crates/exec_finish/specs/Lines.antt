-- Which answers are whole lines that can be told from the other lines of a printing.
use Rattle.std.specs.Prelude.{◌≡◌, ◌≢◌, ℕ, List, [], ◌∷◌, Bool, false, ◌||◌, ◌==◌, All, IfSome, flat_map}
use Rattle.doc_values.specs.Value.{HasOneLineArray}
use Rattle.row_columns.specs.Contents.{Output}
use Rattle.exec_finish.specs.Answer.{line}

-- A mark: `#`, `=`, `.`, `~` or `^`.
abbrev pub is_mark : ℕ → Bool
is_mark c = (c == 35) || (c == 61) || (c == 46) || (c == 126) || (c == 94)

-- A line of an answer, without its line feed: it is not empty, no mark begins it, and it holds no line feed.
abbrev pub IsAnswerLine : List ℕ → Type 0
IsAnswerLine [] = ⊥
IsAnswerLine (c ∷ cs) = (is_mark c ≡ false) × All (λ byte. byte ≢ 10) (c ∷ cs)

-- A text is whole lines of an answer, each with its line feed.
pub record IsLines (text : List ℕ) : Type 0 where
  pub lines : List (List ℕ)
  pub whole : text ≡ flat_map line lines
  pub each : All IsAnswerLine lines

-- What a row prints stays on its line where it is an array.
pub record HasOneLineValues (row : Output) : Type 0 where
  pub items : All (λ item. IfSome item HasOneLineArray) row.items
  pub doc : IfSome row.doc (λ fields. All (λ field. HasOneLineArray field.1) fields)
