-- The field with a number, if there is one, and where it stands.
use Rattle.std.specs.Prelude.{◌≡◌, ℕ, ◌<◌, ◌≤◌, ◌==◌, List, [], ◌∷◌, Option, Some, None, if◌then◌else◌}
use Rattle.reservoir_record.specs.declared.fields.Field.{Field}
use Rattle.reservoir_record.specs.Words.{number_at}

-- The value of the field with a number.
abbrev pub value_of : ℕ → List Field → Option (List ℕ)
value_of id [] = None
value_of id (f ∷ fs) = if f.id == id then Some f.bytes else value_of id fs

-- The number stands at a place of the table.
pub record StandsAt (bytes : List ℕ) (count id place : ℕ) : Type 0 where
  pub within : place < count
  pub here : number_at bytes place ≡ id

-- The number would stand at a place: the numbers before it are lower, and those from it on higher.
pub record FitsAt (bytes : List ℕ) (count id place : ℕ) : Type 0 where
  pub within : place ≤ count
  pub below : (k : ℕ) → k < place → number_at bytes k < id
  pub above : (k : ℕ) → place ≤ k → k < count → id < number_at bytes k
