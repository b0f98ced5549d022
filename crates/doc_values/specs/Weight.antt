-- The weight of a document.
use Rattle.std.specs.Prelude.{ℕ, length}
use Rattle.std.specs.List.{sum_by}
use Rattle.doc_values.specs.declared.value.Value as value
use Rattle.doc_values.specs.Doc.{Fields}

-- What a value weighs, in bytes.
abbrev pub value_weight : value.Value → ℕ
value_weight (value.TheVariants.Bool b) = 1
value_weight (value.TheVariants.Int n) = 8
value_weight (value.TheVariants.Text s) = length s
value_weight (value.TheVariants.Array s) = length s
value_weight value.TheVariants.Object = 0

-- What the fields of a document weigh together; a name weighs nothing.
abbrev pub weight_of : Fields → ℕ
weight_of fields = sum_by (λ f. value_weight f.1) fields
