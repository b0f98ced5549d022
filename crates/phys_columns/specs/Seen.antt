-- How a function from an attribute and a version is seen as one finite map.
use Rattle.std.specs.Prelude.{◌≡◌, ℕ, zero, suc, ◌<◌, List, [], ◌∷◌, ◌++◌, Option, Some}
use Rattle.std.specs.Option.{option_map_or}
use Rattle.std.specs.FinMap as map
use Rattle.doc_values.specs.declared.value.Value.{Value}
use Rattle.phys_columns.specs.Cells.{Cells, key_of}

-- The values of one attribute in the versions below a bound, each under its key.
unfoldable pub entries_of : ℕ → (ℕ → Option Value) → ℕ → List (List ℕ × Value)
entries_of id values zero = []
entries_of id values (suc version) = option_map_or (λ value. (key_of id version, value) ∷ entries_of id values version) (values version) (entries_of id values version)

-- The values of the attributes below a bound, in the versions below another one.
unfoldable pub entries_below : (ℕ → ℕ → Option Value) → ℕ → ℕ → List (List ℕ × Value)
entries_below values zero versions = []
entries_below values (suc id) versions = entries_of id (values id) versions ++ entries_below values id versions

-- The map of these values.
unfoldable pub cells_of : (ℕ → ℕ → Option Value) → ℕ → ℕ → Cells
cells_of values ids versions = map.from_entries (entries_below values ids versions)

-- Values stand at attributes and versions below the bounds alone.
abbrev pub IsWithin : (ℕ → ℕ → Option Value) → ℕ → ℕ → Type 0
IsWithin values ids versions = (id version : ℕ) (value : Value) → values id version ≡ Some value → (id < ids) × (version < versions)
