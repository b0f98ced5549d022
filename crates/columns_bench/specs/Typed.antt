-- Columns in which the number of an attribute tells its kind.
use Rattle.std.specs.Prelude.{◌≡◌, ℕ, ◌%◌, ◌==◌, Some, if◌then◌else◌}
use Rattle.doc_values.specs.declared.kind.Kind as kind
use Rattle.doc_values.specs.declared.value.Value.{Value}
use Rattle.doc_values.specs.Value.{kind_of}
use Rattle.phys_columns.specs.Cells.{Cells, cell_at}

-- The kind of an attribute, by its number.
abbrev pub kind_by : ℕ → kind.Kind
kind_by id =
    if id % 5 == 0 then kind.TheVariants.Int
    else if id % 5 == 1 then kind.TheVariants.Bool
    else if id % 5 == 2 then kind.TheVariants.Text
    else if id % 5 == 3 then kind.TheVariants.Array
    else kind.TheVariants.Object

-- Every value is of the kind of its attribute.
abbrev pub AreTyped : Cells → Type 0
AreTyped cells = (id version : ℕ) (value : Value) → cell_at id version cells ≡ Some value → kind_of value ≡ kind_by id
