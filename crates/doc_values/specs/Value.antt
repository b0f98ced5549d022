-- What a value is, and the text that stands for it in an answer.
use Rattle.std.specs.Prelude.{ℕ, ℤ, pos, negsuc, ◌≤◌, ◌≤ℤ◌, List, Bool, true, false, Option, Some, None, codes}
use Rattle.std.specs.List.{All}
use Rattle.std.specs.Fmt.{signed_decimal}
use Rattle.json.specs.Print.{quoted}
use Rattle.doc_values.specs.declared.kind.Kind as kind
use Rattle.doc_values.specs.declared.value.Value as value

-- The kind of a value.
abbrev pub kind_of : value.Value → kind.Kind
kind_of (value.TheVariants.Bool b) = kind.TheVariants.Bool
kind_of (value.TheVariants.Int n) = kind.TheVariants.Int
kind_of (value.TheVariants.Text s) = kind.TheVariants.Text
kind_of (value.TheVariants.Array s) = kind.TheVariants.Array
kind_of value.TheVariants.Object = kind.TheVariants.Object

-- The least signed integer of 64 bits.
abbrev pub least_number : ℤ
least_number = negsuc 9223372036854775807

-- The greatest signed integer of 64 bits.
abbrev pub greatest_number : ℤ
greatest_number = pos 9223372036854775807

-- A document may hold the value: a number has to be a signed integer of 64 bits.
abbrev pub IsStorable : value.Value → Type 0
IsStorable (value.TheVariants.Bool b) = Unit {0}
IsStorable (value.TheVariants.Int n) = (least_number ≤ℤ n) × (n ≤ℤ greatest_number)
IsStorable (value.TheVariants.Text s) = Unit {0}
IsStorable (value.TheVariants.Array s) = Unit {0}
IsStorable value.TheVariants.Object = Unit {0}

-- What is printed for a truth value.
abbrev pub bool_text : Bool → List ℕ
bool_text true = codes "true"
bool_text false = codes "false"

-- What is printed for a value: a text as JSON writes a string, an array its compact JSON, an object always `{}`.
abbrev pub value_text : value.Value → List ℕ
value_text (value.TheVariants.Bool b) = bool_text b
value_text (value.TheVariants.Int n) = signed_decimal n
value_text (value.TheVariants.Text s) = quoted s
value_text (value.TheVariants.Array s) = s
value_text value.TheVariants.Object = codes "{}"

-- What is printed where a value may be missing.
abbrev pub printed : Option value.Value → List ℕ
printed None = codes "null"
printed (Some v) = value_text v

-- The text has no byte below 32, so it stays on its line.
abbrev pub IsOneLine : List ℕ → Type 0
IsOneLine text = All (λ byte. 32 ≤ byte) text

-- The text of the value stays on its line where it is an array.
abbrev pub HasOneLineArray : value.Value → Type 0
HasOneLineArray (value.TheVariants.Bool b) = Unit {0}
HasOneLineArray (value.TheVariants.Int n) = Unit {0}
HasOneLineArray (value.TheVariants.Text s) = Unit {0}
HasOneLineArray (value.TheVariants.Array s) = IsOneLine s
HasOneLineArray value.TheVariants.Object = Unit {0}
