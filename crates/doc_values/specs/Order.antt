-- The order of values: by their kinds, and within a kind by what they hold.
use Rattle.std.specs.Prelude.{◌≡◌, ◌↔◌, ℕ, ◌==◌, Bool, not, Option, Some, None, IsSome, unwrap_or}
use Rattle.std.specs.Ordering.{nat_cmp, int_cmp, bool_cmp, is_lt, is_eq, is_gt}
use Rattle.std.specs.declared.cmp.Ordering.{Ordering}
use Rattle.std.specs.declared.cmp.Ordering.TheVariants.{Less, Equal, Greater}
use Rattle.std.specs.Cmp.Lexicographic.{slice_cmp}
use Rattle.doc_values.specs.declared.kind.Kind as kind
use Rattle.doc_values.specs.declared.value.Value as value
use Rattle.doc_values.specs.declared.compare_op.CompareOp as compare_op
use Rattle.doc_values.specs.Value.{kind_of}

-- The place of a kind among the five.
abbrev pub rank : kind.Kind → ℕ
rank kind.TheVariants.Bool = 0
rank kind.TheVariants.Int = 1
rank kind.TheVariants.Text = 2
rank kind.TheVariants.Array = 3
rank kind.TheVariants.Object = 4

-- Two kinds are the same.
abbrev pub same_kind : kind.Kind → kind.Kind → Bool
same_kind a b = rank a == rank b

-- How two values of one kind compare: false before true, numbers by size, texts and arrays by their bytes, objects alike.
abbrev pub compared : value.Value → value.Value → Option Ordering
compared (value.TheVariants.Bool a) (value.TheVariants.Bool b) = Some (bool_cmp a b)
compared (value.TheVariants.Int a) (value.TheVariants.Int b) = Some (int_cmp a b)
compared (value.TheVariants.Text a) (value.TheVariants.Text b) = Some (slice_cmp nat_cmp a b)
compared (value.TheVariants.Array a) (value.TheVariants.Array b) = Some (slice_cmp nat_cmp a b)
compared value.TheVariants.Object value.TheVariants.Object = Some Equal
compared a b = None

-- How any two values compare: by their kinds first.
abbrev pub value_order : value.Value → value.Value → Ordering
value_order a b = unwrap_or (compared a b) (nat_cmp (rank (kind_of a)) (rank (kind_of b)))

-- The same where a value may be missing: that comes after every value.
abbrev pub total_order : Option value.Value → Option value.Value → Ordering
total_order None None = Equal
total_order None (Some b) = Greater
total_order (Some a) None = Less
total_order (Some a) (Some b) = value_order a b

-- Values are told apart by the order exactly where they differ.
abbrev pub TellsApart : Type 0
TellsApart = (a b : Option value.Value) → (total_order a b ≡ Equal) ↔ (a ≡ b)

-- Two values compare exactly where their kinds are one.
abbrev pub ComparesWithinKinds : Type 0
ComparesWithinKinds = (a b : value.Value) → IsSome (compared a b) ↔ (kind_of a ≡ kind_of b)

-- The comparison admits what the order says of its left side against its right.
abbrev pub admits : compare_op.CompareOp → Ordering → Bool
admits compare_op.TheVariants.Eq o = is_eq o
admits compare_op.TheVariants.Ne o = not (is_eq o)
admits compare_op.TheVariants.Lt o = is_lt o
admits compare_op.TheVariants.Le o = not (is_gt o)
admits compare_op.TheVariants.Gt o = is_gt o
admits compare_op.TheVariants.Ge o = not (is_lt o)
