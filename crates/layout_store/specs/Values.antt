-- What is read of a version: the value of an attribute, and that of a name.
use Rattle.std.specs.Prelude.{ℕ, List, Option, Some, None, option_map, option_and_then, slice_get, if◌then◌else◌}
use Rattle.std.specs.Option.{option_map_or}
use Rattle.doc_values.specs.Doc.{Fields, value_at}
use Rattle.doc_values.specs.Order.{same_kind}
use Rattle.doc_values.specs.Value.{kind_of}
use Rattle.doc_values.specs.declared.kind.Kind.{Kind}
use Rattle.doc_values.specs.declared.value.Value.{Value}
use Rattle.attr_catalog.specs.declared.way.Way.{Way}
use Rattle.attr_catalog.specs.declared.way.Way.TheVariants as way
use Rattle.document_records.specs.StoredValue.{value_in}
use Rattle.layout_store.specs.Storage.{Storage, held}

-- The value that a version holds of an attribute, if it holds one.
abbrev pub value_held : Storage → ℕ → ℕ → Option Value
value_held s version id = option_map_or (λ a. option_map (value_in a.kind) (held s version id)) (slice_get s.attributes id) None

-- A value, if it is of the kind that is wanted, where one is.
abbrev pub if_wanted : Option Kind → Value → Option Value
if_wanted None v = Some v
if_wanted (Some of) v = if same_kind (kind_of v) of then Some v else None

-- The value that a document has under a name, if it is of the kind that is wanted.
abbrev pub value_wanted : List ℕ → Option Kind → Fields → Option Value
value_wanted name wanted document = option_and_then (if_wanted wanted) (value_at name document)

-- The number of the attribute to which a way leads.
abbrev pub number_of : Way → ℕ
number_of (way.Column id) = id.0
number_of (way.Extract id) = id.0
number_of (way.Either id) = id.0
