-- Rows in the order of their keys.
use Rattle.std.specs.Prelude.{Bool, List, [], ◌∷◌, Option, None, if◌then◌else◌}
use Rattle.std.specs.Ordering.{ordering_reverse, ordering_then, is_lt}
use Rattle.std.specs.declared.cmp.Ordering.{Ordering}
use Rattle.std.specs.declared.cmp.Ordering.TheVariants.{Equal}
use Rattle.doc_values.specs.declared.value.Value.{Value}
use Rattle.doc_values.specs.Order.{total_order}
use Rattle.row_columns.specs.Contents.{Output}

-- The first of some keys; NULL where there is none.
abbrev pub first_key : List (Option Value) → Option Value
first_key [] = None
first_key (k ∷ ks) = k

-- The keys behind the first.
abbrev pub other_keys : List (Option Value) → List (Option Value)
other_keys [] = []
other_keys (k ∷ ks) = ks

-- How keys compare, each of which is descending or not: by the first in which they differ, turned round where that is descending.
abbrev pub key_order : List Bool → List (Option Value) → List (Option Value) → Ordering
key_order [] ks ls = Equal
key_order (descending ∷ others) ks ls =
    let order = total_order (first_key ks) (first_key ls) in
    ordering_then (if descending then ordering_reverse order else order) (key_order others (other_keys ks) (other_keys ls))

-- How rows compare, by their keys.
abbrev pub row_order : List Bool → Output → Output → Ordering
row_order descending r s = key_order descending r.keys s.keys

-- A row put behind those, of rows in order, that come before it.
abbrev pub put_in : List Bool → Output → List Output → List Output
put_in descending r [] = r ∷ []
put_in descending r (s ∷ ss) = if is_lt (row_order descending s r) then s ∷ put_in descending r ss else r ∷ s ∷ ss

-- Rows in the order of their keys; those with equal keys stay in their order.
abbrev pub ordered : List Bool → List Output → List Output
ordered descending [] = []
ordered descending (r ∷ rs) = put_in descending r (ordered descending rs)
