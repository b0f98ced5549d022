-- The pairs of name and kind that documents have.
use Rattle.std.specs.Prelude.{ℕ, List, [], ◌∷◌, ◌++◌, Bool, ◌&&◌, map, fold, if◌then◌else◌}
use Rattle.std.specs.List.{list_any}
use Rattle.std.specs.Str.{bytes_eq}
use Rattle.doc_values.specs.Doc.{Fields}
use Rattle.doc_values.specs.Order.{same_kind}
use Rattle.doc_values.specs.Value.{kind_of}
use Rattle.doc_values.specs.declared.kind.Kind.{Kind}
use Rattle.doc_values.specs.declared.value.Value.{Value}

-- Pairs of name and kind.
abbrev pub Pairs : Type 0
Pairs = List (List ℕ × Kind)

-- The pair of name and kind that a field has.
abbrev pub pair_of : List ℕ × Value → List ℕ × Kind
pair_of field = (field.0, kind_of field.1)

-- Two pairs of name and kind are the same.
abbrev pub same_pair : List ℕ × Kind → List ℕ × Kind → Bool
same_pair a b = bytes_eq a.0 b.0 && same_kind a.1 b.1

-- The pairs with one more, if it is not among them.
abbrev pub pairs_with : Pairs → List ℕ × Kind → Pairs
pairs_with pairs pair = if list_any (same_pair pair) pairs then pairs else pairs ++ pair ∷ []

-- The pairs with those of a document's fields.
abbrev pub with_fields : Pairs → Fields → Pairs
with_fields pairs fields = fold pairs_with pairs (map pair_of fields)
