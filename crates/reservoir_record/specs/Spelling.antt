-- What a record is: the bytes that a list of fields has, and no others.
use Rattle.std.specs.Prelude.{◌≡◌, ℕ, ◌+◌, ◌<◌, ◌≤◌, List, [], ◌∷◌, ◌++◌, length, map}
use Rattle.std.specs.List.{flat_map}
use Rattle.std.specs.Int.{w32, to_le_bytes}
use Rattle.reservoir_record.specs.declared.fields.Field.{Field}

-- A number as four bytes, the lowest first.
unfoldable pub number_bytes : ℕ → List ℕ
number_bytes n = to_le_bytes w32 n

-- The numbers of the fields.
abbrev pub numbers : List Field → List ℕ
numbers fields = map (λ f. f.id) fields

-- The values one after another.
abbrev pub values : List Field → List ℕ
values fields = flat_map (λ f. f.bytes) fields

-- Where each value begins, the first at a place, and then where the last one ends.
abbrev pub offsets : ℕ → List Field → List ℕ
offsets at [] = at ∷ []
offsets at (f ∷ fs) = at ∷ offsets (at + length f.bytes) fs

-- Where each value ends, the first begun at a place.
abbrev pub ends : ℕ → List Field → List ℕ
ends at [] = []
ends at (f ∷ fs) = (at + length f.bytes) ∷ ends (at + length f.bytes) fs

-- The numbers ascend strictly from a least one on, and are below 65,536.
abbrev pub Ascends : ℕ → List Field → Type 0
Ascends least [] = Unit {0}
Ascends least (f ∷ fs) = (least ≤ f.id) × (f.id < 65536) × Ascends (f.id + 1) fs

-- The fields of a record: their numbers ascend, and their values have at most 16,777,216 bytes together.
pub record AreFields (fields : List Field) : Type 0 where
  pub ascend : Ascends 0 fields
  pub fit : length (values fields) ≤ 16777216

-- The parts of a list of fields: their numbers, where each value ends, and the values one after another.
pub record ArePartsOf (fields : List Field) (ids value_ends text : List ℕ) : Type 0 where
  pub numbered : ids ≡ numbers fields
  pub placed : value_ends ≡ ends 0 fields
  pub whole : text ≡ values fields

-- How many fields there are, their numbers, where their values begin and end, and the values.
abbrev pub spelling : List Field → List ℕ
spelling fields = number_bytes (length fields) ++ (flat_map number_bytes (numbers fields) ++ (flat_map number_bytes (offsets 0 fields) ++ values fields))

-- The bytes are the record of these fields.
pub record Spells (fields : List Field) (bytes : List ℕ) : Type 0 where
  pub lawful : AreFields fields
  pub spelled : bytes ≡ spelling fields

-- The bytes are a record of some fields.
abbrev pub IsRecord : List ℕ → Type 0
IsRecord bytes = (fields : List Field) × Spells fields bytes
