-- A value that is lent, and the value that it stands for.
use Rattle.doc_values.specs.declared.value.Value as value
use Rattle.doc_values.specs.declared.value_ref.ValueRef as value_ref

-- A value that is lent, as a value.
abbrev pub owned : value_ref.ValueRef → value.Value
owned (value_ref.TheVariants.Bool b) = value.TheVariants.Bool b
owned (value_ref.TheVariants.Int n) = value.TheVariants.Int n
owned (value_ref.TheVariants.Text text) = value.TheVariants.Text text.now
owned (value_ref.TheVariants.Array text) = value.TheVariants.Array text.now
owned value_ref.TheVariants.Object = value.TheVariants.Object
