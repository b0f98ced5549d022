-- The laws of the spelling: one for each list, and one list for each; and of the parts of a list.
use Rattle.std.specs.Prelude.{◌≡◌, ℕ, ◌+◌, List, [], ◌∷◌, ◌++◌, length}
use Rattle.reservoir_record.specs.declared.fields.Field.{Field}
use Rattle.reservoir_record.specs.Spelling.{Spells, AreFields, ArePartsOf}
use Rattle.reservoir_record.specs.Walking.{fields_in}

-- A list of fields within the bounds of a record has one spelling.
abbrev pub HasOneSpelling : Type 0
HasOneSpelling = (fields : List Field) → AreFields fields → (bytes : List ℕ) × Spells fields bytes × ((other : List ℕ) → Spells fields other → other ≡ bytes)

-- A spelling has one list of fields.
abbrev pub HasOneList : Type 0
HasOneList = (a b : List Field) (bytes : List ℕ) → Spells a bytes → Spells b bytes → a ≡ b

-- The parts of some fields with the parts of one more field behind them.
abbrev pub HasPartsOfOneMore : Type 0
HasPartsOfOneMore = (fields : List Field) (f : Field) (ids ends text : List ℕ) → ArePartsOf fields ids ends text → ArePartsOf (fields ++ (f ∷ [])) (ids ++ (f.id ∷ [])) (ends ++ ((length text + length f.bytes) ∷ [])) (text ++ f.bytes)

-- What stands in the table of a spelling is its list of fields.
abbrev pub HasFieldsInPlace : Type 0
HasFieldsInPlace = (fields : List Field) (bytes : List ℕ) → Spells fields bytes → fields_in bytes ≡ fields
