-- What the fields of a record have under the numbers of a name: how a value is read back.
use Rattle.std.specs.Prelude.{List, Option, Some, None, IfSome, option_map}
use Rattle.std.specs.Option.{option_or}
use Rattle.doc_values.specs.declared.attr_id.AttrId.{AttrId}
use Rattle.doc_values.specs.declared.kind.Kind.{Kind}
use Rattle.doc_values.specs.declared.kind.Kind.TheVariants as kind
use Rattle.doc_values.specs.declared.value.Value.{Value}
use Rattle.reservoir_record.specs.declared.fields.Field.{Field}
use Rattle.reservoir_record.specs.Finding.{value_of}
use Rattle.attr_catalog.specs.declared.kinds.Kinds.{Kinds}
use Rattle.document_records.specs.StoredValue.{value_in, AreReadable}

-- The value of a field of one kind, where the name has a number for it.
abbrev pub value_of_kind : Kind → Option AttrId → List Field → Option Value
value_of_kind of None fields = None
value_of_kind of (Some id) fields = option_map (value_in of) (value_of id.0 fields)

-- The first value among the kinds that a name has.
abbrev pub value_under : Kinds → List Field → Option Value
value_under kinds fields =
    option_or (value_of_kind kind.Bool kinds.bool_id fields)
    (option_or (value_of_kind kind.Int kinds.int_id fields)
    (option_or (value_of_kind kind.Text kinds.text_id fields)
    (option_or (value_of_kind kind.Array kinds.array_id fields) (value_of_kind kind.Object kinds.object_id fields))))

-- What stands for one kind of a name can be read at it.
abbrev pub IsReadable : Kind → Option AttrId → List Field → Type 0
IsReadable of None fields = Unit {0}
IsReadable of (Some id) fields = IfSome (value_of id.0 fields) (AreReadable of)

-- What stands for each kind of a name can be read at it.
pub record CanBeRead (kinds : Kinds) (fields : List Field) : Type 0 where
  pub bools : IsReadable kind.Bool kinds.bool_id fields
  pub ints : IsReadable kind.Int kinds.int_id fields
  pub texts : IsReadable kind.Text kinds.text_id fields
  pub arrays : IsReadable kind.Array kinds.array_id fields
  pub objects : IsReadable kind.Object kinds.object_id fields
