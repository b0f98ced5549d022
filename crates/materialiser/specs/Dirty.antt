-- Which attributes are dirty, and how many versions of each are still to be moved.
use Rattle.std.specs.Prelude.{◌≡◌, ℕ, ◌-◌, ◌<◌, Bool, List, Option, Some, None, is_some, length, position, slice_get, sum_by}
use Rattle.std.specs.Option.{option_map_or}
use Rattle.attr_catalog.specs.Attribute.{Attribute}
use Rattle.layout_store.specs.Storage.{Storage}

-- Whether an attribute is dirty.
abbrev pub is_dirty : Attribute → Bool
is_dirty a = is_some a.mark

-- The number of the first dirty attribute, if one is dirty.
abbrev pub first_dirty : List Attribute → Option ℕ
first_dirty attributes = position is_dirty attributes

-- No attribute below a number is dirty.
abbrev pub AreCleanBelow : ℕ → List Attribute → Type 0
AreCleanBelow bound attributes = (id : ℕ) (a : Attribute) → id < bound → slice_get attributes id ≡ Some a → a.mark ≡ None

-- How many of so many versions are still to be moved for an attribute: those from its mark on, and none while it is clean.
abbrev pub versions_left : ℕ → Attribute → ℕ
versions_left versions a = option_map_or (λ clean_to. versions - clean_to) a.mark 0

-- How many moves leave no attribute dirty.
abbrev pub moves_left : Storage → ℕ
moves_left s = sum_by (versions_left (length s.history.versions)) s.attributes
