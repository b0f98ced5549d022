-- What a walk has left: the values of a page from a place on, each with its version.
use Rattle.std.specs.Prelude.{ℕ, zero, suc, ◌+◌, ◌-◌, ◌*◌, List, [], ◌∷◌, Option}
use Rattle.std.specs.Option.{option_map_or}
use Rattle.doc_values.specs.declared.value.Value.{Value}
use Rattle.std.specs.Borrow.{Bor}
use Rattle.phys_columns.specs.declared.page.Page.{Page}
use Rattle.phys_columns.specs.declared.walk.Walk.{Walk}
use Rattle.doc_values.specs.declared.value_ref.ValueRef.{ValueRef}
use Rattle.phys_columns.specs.Pages.{value_at}
use Rattle.doc_values.specs.Lent.{owned}

-- The values of a page from a place on, so many places far, each with its version.
unfoldable pub values_in : Page → ℕ → ℕ → List (ℕ × Value)
values_in page place zero = []
values_in page place (suc many) = option_map_or (λ value. (1024 * page.number + place, value) ∷ values_in page (place + 1) many) (value_at page place) (values_in page (place + 1) many)

-- All values of a page that may be missing.
abbrev pub all_of : Option (Bor Page) → List (ℕ × Value)
all_of page = option_map_or (λ p. values_in p.now 0 1024) page []

-- What a walk has left.
abbrev pub left_of : Walk → List (ℕ × Value)
left_of walk = option_map_or (λ p. values_in p.now walk.place (1024 - walk.place)) walk.page []

-- An item of a walk, as a version with its value.
abbrev pub shown : ℕ × ValueRef → ℕ × Value
shown item = (item.0, owned item.1)
