-- What a walk has left: the fields of the table from a place on.
use Rattle.std.specs.Prelude.{ℕ, zero, suc, ◌+◌, ◌-◌, List, [], ◌∷◌}
use Rattle.std.specs.Borrow.{Bor}
use Rattle.reservoir_record.specs.declared.fields.Field.{Field}
use Rattle.reservoir_record.specs.declared.walking.Walk.{Walk}
use Rattle.reservoir_record.specs.Words.{word_at, number_at, value_at}

-- So many fields of a table from a place on.
abbrev pub fields_from : List ℕ → ℕ → ℕ → ℕ → List Field
fields_from bytes count zero k = []
fields_from bytes count (suc m) k = record { id = number_at bytes k; bytes = value_at bytes count k } ∷ fields_from bytes count m (k + 1)

-- The fields that a walk has left.
abbrev pub left_of : Walk → List Field
left_of walk = fields_from walk.bytes.now walk.count (walk.count - walk.place) walk.place

-- An item of a walk, as the field that it shows.
abbrev pub shown : ℕ × Bor (List ℕ) → Field
shown item = record { id = item.0; bytes = item.1.now }

-- All fields of a table.
abbrev pub fields_in : List ℕ → List Field
fields_in bytes = fields_from bytes (word_at bytes 0) (word_at bytes 0) 0
