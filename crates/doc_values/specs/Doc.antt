-- What a document is: a finite map from names to values, as the list of its fields in the order of their names.
use Rattle.std.specs.Prelude.{◌≡◌, ℕ, List, [], ◌∷◌, Option}
use Rattle.std.specs.Ordering.{nat_cmp}
use Rattle.std.specs.declared.cmp.Ordering.TheVariants.{Less}
use Rattle.std.specs.Cmp.Lexicographic.{slice_cmp}
use Rattle.std.specs.Map.{lookup, remove_entry}
use Rattle.std.specs.BTreeMap.{insert_entry, is_at}
use Rattle.doc_values.specs.declared.value.Value.{Value}
use Rattle.doc_values.specs.Value.{IsStorable}

-- The fields of a document: names, as bytes, with their values.
abbrev pub Fields : Type 0
Fields = List (List ℕ × Value)

-- The value that stands under a name, if there is one.
abbrev pub value_at : List ℕ → Fields → Option Value
value_at name fields = lookup (is_at (slice_cmp nat_cmp name)) fields

-- The fields with a value put under a name.
abbrev pub with_field : Fields → List ℕ → Value → Fields
with_field fields name value = insert_entry (slice_cmp nat_cmp) fields name value

-- The fields without a name.
abbrev pub without_field : Fields → List ℕ → Fields
without_field fields name = remove_entry (is_at (slice_cmp nat_cmp name)) fields

-- A name stands before the first of these fields by its bytes.
abbrev pub IsBefore : List ℕ → Fields → Type 0
IsBefore name [] = Unit {0}
IsBefore name (f ∷ fs) = slice_cmp nat_cmp name f.0 ≡ Less

-- A document keeps its names ascending by bytes, so each once, and its numbers in 64 bits.
abbrev pub IsDocument : Fields → Type 0
IsDocument [] = Unit {0}
IsDocument (f ∷ fs) = IsBefore f.0 fs × IsStorable f.1 × IsDocument fs
