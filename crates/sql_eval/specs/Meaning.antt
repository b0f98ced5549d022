-- What a term means over a tuple of documents: a value, or NULL.
use Rattle.std.specs.Prelude.{ℕ, pos, neg_ℤ, ℤ, ◌==◌, List, map, Option, Some, None, option_map, option_and_then, if◌then◌else◌}
use Rattle.std.specs.List.{position_from}
use Rattle.std.specs.Str.{bytes_eq}
use Rattle.doc_values.specs.declared.kind.Kind.{Kind}
use Rattle.doc_values.specs.declared.kind.Kind.TheVariants as kind
use Rattle.doc_values.specs.declared.compare_op.CompareOp.{CompareOp}
use Rattle.doc_values.specs.declared.compare_op.CompareOp.TheVariants as compare_op
use Rattle.doc_values.specs.declared.value.Value as value
use Rattle.doc_values.specs.Value.{kind_of}
use Rattle.doc_values.specs.Doc.{Fields, value_at}
use Rattle.doc_values.specs.Order.{same_kind}
use Rattle.sql_tree.specs.declared.reference.Ref.{Ref}
use Rattle.sql_tree.specs.declared.term.Term.{Term}
use Rattle.sql_tree.specs.declared.term.Term.TheOpen.{Term-F, Addend-F}
use Rattle.sql_tree.specs.declared.term.Term.TheFolds.{fold-Term}
use Rattle.sql_eval.specs.declared.truth_value.Truth.{Truth}
use Rattle.sql_eval.specs.Truth.{denied, both, all_of, any_of, unless, value_of, truth_of}
use Rattle.sql_eval.specs.Operators.{number_of, value_of_number, signed, sum_of, product_of, comparison, likeness, nullness}
use Rattle.row_columns.specs.Sides.{side_at}
use Rattle.sql_eval.specs.Kinds.{own_step, wanted_beside}

-- A value where a kind is wanted, or none: one of another kind is NULL there.
abbrev pub if_wanted : Option Kind → value.Value → Option value.Value
if_wanted None v = Some v
if_wanted (Some k) v = if same_kind k (kind_of v) then Some v else None

-- What a document gives for a name where a kind is wanted, or none.
abbrev pub given : List ℕ → Option Kind → Fields → Option value.Value
given name want fields = option_and_then (if_wanted want) (value_at name fields)

-- The place of the table that a qualifier names among the aliases in scope; a reference without one is to the first table.
abbrev pub table_of : List (List ℕ) → Option (List ℕ) → Option ℕ
table_of scope None = Some 0
table_of scope (Some alias) = position_from (bytes_eq alias) 0 scope

-- What a reference gives where a kind is wanted, or none.
abbrev pub read : List (List ℕ) → List (Option Fields) → Ref → Option Kind → Option value.Value
read scope sides r want = option_and_then (given r.name want) (option_and_then (side_at sides) (table_of scope r.qualifier))

-- A part of a term, to the term around it: the kind that it has by itself, and what it means where a kind is wanted of it, or none.
pub record Part : Type 0 where
  pub own : Option Kind
  pub means : Option Kind → Option value.Value

-- What a part is where a truth value is wanted.
abbrev pub truth_in : Part → Truth
truth_in t = truth_of (t.means (Some kind.Bool))

-- What a part is where a number is wanted.
abbrev pub number_in : Part → Option ℤ
number_in t = number_of (t.means (Some kind.Int))

-- The comparison of two parts, each with the kind that is wanted of it beside the other.
abbrev pub comparison_of : CompareOp → Part → Part → Truth
comparison_of op a b = comparison op (a.means (wanted_beside a.own b.own)) (b.means (wanted_beside b.own a.own))

-- One level of a term where a kind is wanted of it, or none. Aggregates and ANY, which speak of more than one tuple or of an array's elements, have no meaning here: NULL stands for it.
abbrev pub means_step : List (List ℕ) → List (Option Fields) → Term-F Part (Option ℤ) → Option Kind → Option value.Value
means_step scope sides (Term-F.Number n) want = Some (value.TheVariants.Int (pos n))
means_step scope sides (Term-F.Text text) want = Some (value.TheVariants.Text text)
means_step scope sides (Term-F.Bool b) want = Some (value.TheVariants.Bool b)
means_step scope sides Term-F.Null want = None
means_step scope sides (Term-F.Column r) want = read scope sides r want
means_step scope sides (Term-F.Wanted k r) want = read scope sides r (Some k)
means_step scope sides (Term-F.Or ts) want = value_of (any_of (map truth_in ts))
means_step scope sides (Term-F.And ts) want = value_of (all_of (map truth_in ts))
means_step scope sides (Term-F.Not t) want = value_of (denied (truth_in t))
means_step scope sides (Term-F.Compare op a b) want = value_of (comparison_of op a b)
means_step scope sides (Term-F.IsNull t negated) want = nullness negated (t.means None)
means_step scope sides (Term-F.Among t ts negated) want = value_of (unless negated (any_of (map (comparison_of compare_op.Eq t) ts)))
means_step scope sides (Term-F.Between t low high negated) want = value_of (unless negated (both (comparison_of compare_op.Ge t low) (comparison_of compare_op.Le t high)))
means_step scope sides (Term-F.Like t pattern negated) want = value_of (unless negated (likeness (t.means (Some kind.Text)) pattern))
means_step scope sides (Term-F.AnyOf t r) want = None
means_step scope sides (Term-F.Sum ns) want = value_of_number (sum_of ns)
means_step scope sides (Term-F.Product ts) want = value_of_number (product_of (map number_in ts))
means_step scope sides (Term-F.Minus t) want = value_of_number (option_map neg_ℤ (number_in t))
means_step scope sides Term-F.CountAll want = None
means_step scope sides (Term-F.Aggregate call t) want = None

-- One level of a term as a part.
abbrev pub part_step : List (List ℕ) → List (Option Fields) → Term-F Part (Option ℤ) → Part
part_step scope sides level = record { own = own_step (λ t. t.own) level; means = means_step scope sides level }

-- A member of a sum, as the number that it adds.
abbrev pub addend_step : Addend-F Part (Option ℤ) → Option ℤ
addend_step a = signed a.minus (number_in a.term)

-- A term as a part, over the aliases in scope and a document, or none, on each side.
abbrev pub part_of : List (List ℕ) → List (Option Fields) → Term → Part
part_of scope sides = fold-Term Part (Option ℤ) (part_step scope sides) addend_step

-- What a term means where a kind is wanted of it, or none.
abbrev pub meaning : List (List ℕ) → List (Option Fields) → Term → Option Kind → Option value.Value
meaning scope sides t = (part_of scope sides t).means
