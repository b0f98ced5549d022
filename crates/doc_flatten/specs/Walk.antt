-- For private clauses: what a walk over a tree finds, that has so many levels left and stands at a path.
use Rattle.std.specs.Prelude.{ℕ, List, length, Bool, ◌&&◌, nat_le}
use Rattle.serde_json.specs.Data.{Data, Items, Members, depth, items_depth, members_depth}
use Rattle.doc_values.specs.Doc.{Fields}
use Rattle.doc_flatten.specs.Tree.{has_integers, items_have_integers, members_have_integers, has_paths, members_have_paths}
use Rattle.doc_flatten.specs.Fields.{fields_under, members_fields, with_all_fields}
use Rattle.doc_flatten.specs.Documents.{most_fields}

-- The numbers of the tree may be, and it nests no deeper than the levels.
abbrev pub is_plain : ℕ → Data → Bool
is_plain levels d = nat_le (depth d) levels && has_integers d

-- The same of each of some items.
abbrev pub items_are_plain : ℕ → Items → Bool
items_are_plain levels ds = nat_le (items_depth ds) levels && items_have_integers ds

-- The same of the value of each of some members.
abbrev pub members_are_plain : ℕ → Members → Bool
members_are_plain levels ms = nat_le (members_depth ms) levels && members_have_integers ms

-- The tree may stand at the path in a document that has these fields so far.
abbrev pub fits_in : ℕ → List ℕ → Fields → Data → Bool
fits_in levels path doc d = is_plain levels d && has_paths path d && nat_le (length (with_all_fields doc (fields_under path d))) most_fields

-- The same of some members of one object.
abbrev pub members_fit_in : ℕ → List ℕ → Fields → Members → Bool
members_fit_in levels path doc ms =
    members_are_plain levels ms && members_have_paths path ms && nat_le (length (with_all_fields doc (members_fields path ms))) most_fields
