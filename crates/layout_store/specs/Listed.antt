-- Which attributes may have cells, as a list of numbers.
use Rattle.std.specs.Prelude.{◌≡◌, ℕ, zero, suc, ◌<◌, List, [], ◌++◌, length, get_or, Option, Some}
use Rattle.doc_values.specs.declared.value.Value.{Value}
use Rattle.phys_columns.specs.Cells.{Cells, cell_at}
use Rattle.reservoir_record.specs.declared.fields.Field.{Field}
use Rattle.layout_store.specs.Documents.{field_if}

-- A number stands in a list.
abbrev pub IsListed : ℕ → List ℕ → Type 0
IsListed id ids = (place : ℕ) × (place < length ids) × (get_or ids place 0 ≡ id)

-- The numbers ascend, so that each stands once.
abbrev pub Rises : List ℕ → Type 0
Rises ids = (i j : ℕ) → i < j → j < length ids → get_or ids i 0 < get_or ids j 0

-- Each attribute of which a version has a cell is listed.
abbrev pub AreListedAt : ℕ → List ℕ → Cells → Type 0
AreListedAt version ids cells = (id : ℕ) (value : Value) → cell_at id version cells ≡ Some value → IsListed id ids

-- Each attribute that has a cell is listed.
abbrev pub AreListed : List ℕ → Cells → Type 0
AreListed ids cells = (version : ℕ) → AreListedAt version ids cells

-- The fields of what is held under the numbers that a list has before a place.
abbrev pub fields_listed : List ℕ → (ℕ → Option (List ℕ)) → ℕ → List Field
fields_listed ids under zero = []
fields_listed ids under (suc place) = fields_listed ids under place ++ field_if (get_or ids place 0) (under (get_or ids place 0))
