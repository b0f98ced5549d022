-- The bytes that a value is stored as.
use Rattle.std.specs.Prelude.{◌≡◌, ℕ, ◌==◌, List, [], ◌∷◌, IsTrue, length, slice_index}
use Rattle.std.specs.Int.{w64, cast_signed, cast_unsigned, from_bool, from_le_bytes, to_le_bytes}
use Rattle.std.specs.Str.{is_utf8}
use Rattle.doc_values.specs.declared.kind.Kind as kind
use Rattle.doc_values.specs.declared.value.Value as value
use Rattle.doc_values.specs.Value.{kind_of, IsStorable}

-- A truth value is one byte, 1 or 0, a number eight in two's complement with the lowest first, a text or an array its text, and an object nothing.
abbrev pub bytes_of : value.Value → List ℕ
bytes_of (value.TheVariants.Bool b) = from_bool b ∷ []
bytes_of (value.TheVariants.Int n) = to_le_bytes w64 (cast_unsigned w64 n)
bytes_of (value.TheVariants.Text s) = s
bytes_of (value.TheVariants.Array s) = s
bytes_of value.TheVariants.Object = []

-- The value of a kind that bytes stand for.
abbrev pub value_in : kind.Kind → List ℕ → value.Value
value_in kind.TheVariants.Bool bytes = value.TheVariants.Bool (slice_index bytes 0 == 1)
value_in kind.TheVariants.Int bytes = value.TheVariants.Int (cast_signed w64 (from_le_bytes w64 bytes))
value_in kind.TheVariants.Text bytes = value.TheVariants.Text bytes
value_in kind.TheVariants.Array bytes = value.TheVariants.Array bytes
value_in kind.TheVariants.Object bytes = value.TheVariants.Object

-- Bytes can be read as a value of a kind.
abbrev pub AreReadable : kind.Kind → List ℕ → Type 0
AreReadable kind.TheVariants.Bool bytes = length bytes ≡ 1
AreReadable kind.TheVariants.Int bytes = length bytes ≡ 8
AreReadable kind.TheVariants.Text bytes = IsTrue (is_utf8 bytes)
AreReadable kind.TheVariants.Array bytes = IsTrue (is_utf8 bytes)
AreReadable kind.TheVariants.Object bytes = Unit {0}

-- A value that a document may hold is what its bytes stand for at its kind.
abbrev pub ReadsBack : Type 0
ReadsBack = (v : value.Value) → IsStorable v → value_in (kind_of v) (bytes_of v) ≡ v

-- Two values of one kind that documents may hold have the same bytes only if they are the same.
abbrev pub AreToldApart : Type 0
AreToldApart = (a b : value.Value) → IsStorable a → IsStorable b → kind_of a ≡ kind_of b → bytes_of a ≡ bytes_of b → a ≡ b
