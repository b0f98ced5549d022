-- Cells over the texts and wide numbers of their column.
use Rattle.std.proofs.Common.{◌≡◌, ◌∙◌, ℕ, ℤ, List, [], ◌∷◌, ◌++◌, map, Option, refl, sym, ap, subst}
use Rattle.std.specs.Prelude.{All}
use Rattle.std.proofs.lemmas.List.{map-append}
use Rattle.std.proofs.lemmas.List.Elements.{All-weaker, All-head, All-tail, All-push}
use Rattle.doc_values.specs.declared.value.Value.{Value}
use Rattle.row_columns.specs.declared.cell.Cell.{Cell}
use Rattle.row_columns.specs.Column.{cell_in, IsCellIn, KeepsCells}

-- cells that stay have the same values
pub values_kept : (old : List ℕ) (old_wides : List ℤ) (new : List ℕ) (new_wides : List ℤ) → KeepsCells old old_wides new new_wides → (cells : List Cell) → All (IsCellIn old old_wides) cells → map (cell_in new new_wides) cells ≡ map (cell_in old old_wides) cells
values_kept old old_wides new new_wides keeps [] h = refl
values_kept old old_wides new new_wides keeps (c ∷ cs) h =
    let first = (keeps c (All-head (IsCellIn old old_wides) c cs h)).1 in
    let rest = values_kept old old_wides new new_wides keeps cs (All-tail (IsCellIn old old_wides) c cs h) in
    λ i. first i ∷ rest i

-- a cell behind those that stay
pub value_pushed : (old : List ℕ) (old_wides : List ℤ) (new : List ℕ) (new_wides : List ℤ) (cells after : List Cell) (cell : Cell) (value : Option Value) → KeepsCells old old_wides new new_wides → All (IsCellIn old old_wides) cells → after ≡ cells ++ cell ∷ [] → cell_in new new_wides cell ≡ value
    → map (cell_in new new_wides) after ≡ map (cell_in old old_wides) cells ++ value ∷ []
value_pushed old old_wides new new_wides cells after cell value keeps h e is =
    let rest = values_kept old old_wides new new_wides keeps cells h in
    ap (map (cell_in new new_wides)) e ∙ map-append (cell_in new new_wides) cells (cell ∷ []) ∙ (λ i. rest i ++ is i ∷ [])

-- and each of them is in its column
pub cells_pushed : (old : List ℕ) (old_wides : List ℤ) (new : List ℕ) (new_wides : List ℤ) (cells after : List Cell) (cell : Cell) → KeepsCells old old_wides new new_wides → All (IsCellIn old old_wides) cells → after ≡ cells ++ cell ∷ [] → IsCellIn new new_wides cell → All (IsCellIn new new_wides) after
cells_pushed old old_wides new new_wides cells after cell keeps h e is =
    subst (All (IsCellIn new new_wides)) (sym e) (All-push (IsCellIn new new_wides) cells cell (All-weaker (IsCellIn old old_wides) (IsCellIn new new_wides) (λ (c : Cell) k. (keeps c k).0) cells h) is)
