-- How rows compare whose keys lie in columns.
use Rattle.std.specs.Prelude.{◌≡◌, ℕ, ◌≤◌, List, [], ◌∷◌, ◌++◌, Bool, true, map, length}
use Rattle.std.specs.Ordering.{is_lt}
use Rattle.std.specs.declared.cmp.Ordering.{Ordering}
use Rattle.row_columns.specs.Contents.{Output}
use Rattle.row_columns.specs.Column.{Values}
use Rattle.row_columns.specs.Placed.{value_in}
use Rattle.exec_finish.specs.Order.{key_order}

-- The keys of the row of each number are what the columns have there.
abbrev pub HaveKeys : List Values → (ℕ → Output) → Type 0
HaveKeys columns row = (number : ℕ) → (row number).keys ≡ map (value_in number) columns

-- How the rows of two numbers compare.
abbrev pub number_order : List Bool → List Values → ℕ → ℕ → Ordering
number_order descending columns a b = key_order descending (map (value_in a) columns) (map (value_in b) columns)

-- There are so many numbers, and the row of the last of them comes before that of another number.
pub record IsBeyond (descending : List Bool) (columns : List Values) (limit number : ℕ) (numbers : List ℕ) : Type 0 where
  pub full : limit ≤ length numbers
  pub front : List ℕ
  pub last : ℕ
  pub ends : numbers ≡ front ++ last ∷ []
  pub behind : is_lt (number_order descending columns last number) ≡ true
