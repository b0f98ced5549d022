-- The laws by which cells are a map.
use Rattle.std.specs.Prelude.{◌≡◌, ℕ, Some, None}
use Rattle.doc_values.specs.declared.value.Value.{Value}
use Rattle.phys_columns.specs.Cells.{Cells, cell_at, with_cell, without_cell}

-- A value that is put in a cell is found there, and every other cell keeps its value.
abbrev pub PutsAlone : Type 0
PutsAlone = (cells : Cells) (id version : ℕ) (value : Value) → (cell_at id version (with_cell id version value cells) ≡ Some value) × ((i w : ℕ) → (i ≡ id → w ≡ version → ⊥) → cell_at i w (with_cell id version value cells) ≡ cell_at i w cells)

-- A cell that is cleared has no value, and every other cell keeps its own.
abbrev pub TakesAlone : Type 0
TakesAlone = (cells : Cells) (id version : ℕ) → (cell_at id version (without_cell id version cells) ≡ None) × ((i w : ℕ) → (i ≡ id → w ≡ version → ⊥) → cell_at i w (without_cell id version cells) ≡ cell_at i w cells)
