-- What columns are: one finite map from an attribute and a version to a value, and the cell that has room reserved.
use Rattle.std.specs.Prelude.{◌≡◌, ℕ, zero, suc, ◌+◌, List, [], ◌∷◌, Option, Some}
use Rattle.std.specs.Option.{option_map_or}
use Rattle.std.specs.Ordering.{nat_cmp}
use Rattle.std.specs.Cmp.Lexicographic.{slice_cmp}
use Rattle.std.specs.FinMap as map
use Rattle.doc_values.specs.declared.kind.Kind as kind
use Rattle.doc_values.specs.declared.value.Value.{Value}
use Rattle.doc_values.specs.Value.{kind_of}
use Rattle.phys_columns.specs.declared.spare.Spare.{Spare}

-- The values of all cells. The key of a cell is the number of its attribute and then its version.
abbrev pub Cells : Type 0
Cells = map.FinMap (slice_cmp nat_cmp) Value

-- The key of a cell.
abbrev pub key_of : ℕ → ℕ → List ℕ
key_of id version = id ∷ version ∷ []

-- The value that stands in a cell, if there is one.
abbrev pub cell_at : ℕ → ℕ → Cells → Option Value
cell_at id version cells = map.get cells (key_of id version)

-- The cells with a value put in one of them.
abbrev pub with_cell : ℕ → ℕ → Value → Cells → Cells
with_cell id version value cells = map.insert cells (key_of id version) value

-- The cells without one of them.
abbrev pub without_cell : ℕ → ℕ → Cells → Cells
without_cell id version cells = map.remove cells (key_of id version)

-- What contracts see of columns: all cells, and the cell that has room reserved.
pub record ColumnsOf : Type 0 where
  pub cells : Cells
  pub spare : Option Spare

-- Every value that stands in a cell of the attribute is of the kind.
abbrev pub AreOfKind : ℕ → kind.Kind → Cells → Type 0
AreOfKind id of cells = (version : ℕ) (value : Value) → cell_at id version cells ≡ Some value → kind_of value ≡ of

-- The values of an attribute from a version on, so many versions far, each with its version.
unfoldable pub values_from : ℕ → ℕ → ℕ → Cells → List (ℕ × Value)
values_from id version zero cells = []
values_from id version (suc many) cells = option_map_or (λ value. (version, value) ∷ values_from id (version + 1) many cells) (cell_at id version cells) (values_from id (version + 1) many cells)
