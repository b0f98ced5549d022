-- Which rows are alike, and the first of those that are.
use Rattle.std.specs.Prelude.{ℕ, Bool, not, ◌&&◌, List, [], ◌∷◌, filter, bytes_eq}
use Rattle.std.specs.Ordering.{eq_by_cmp}
use Rattle.std.specs.Option.{option_eq}
use Rattle.std.specs.Cmp.Lexicographic.{pointwise}
use Rattle.doc_values.specs.declared.value.Value.{Value}
use Rattle.doc_values.specs.Order.{value_order, total_order}
use Rattle.row_columns.specs.Contents.{Output}

-- Fields of documents are the same: they have one name, and the order has their values equal.
abbrev pub is_same_field : (List ℕ × Value) → (List ℕ × Value) → Bool
is_same_field f g = bytes_eq f.0 g.0 && eq_by_cmp value_order f.1 g.1

-- Rows are alike: place by place the order has their items equal, and they have the same document or none.
abbrev pub is_alike : Output → Output → Bool
is_alike r s = pointwise (eq_by_cmp total_order) r.items s.items && option_eq (pointwise is_same_field) r.doc s.doc

-- The first of rows that are alike, each with its own keys.
abbrev pub distinct : List Output → List Output
distinct [] = []
distinct (r ∷ rs) = r ∷ filter (λ s. not (is_alike r s)) (distinct rs)
