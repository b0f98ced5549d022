-- A value is what its bytes stand for.
use Rattle.std.proofs.Common.{◌≡◌, ℕ, true, false, refl, sym, ap, ◌∙◌, arith}
use Rattle.std.specs.Int.{w64, cast_signed, cast_unsigned, from_le_bytes, to_le_bytes}
use Rattle.std.specs.Int.RustNames.{FitsSigned}
use Rattle.std.proofs.lemmas.Int.{ints, to_z-of_z}
use Rattle.std.proofs.lemmas.Nat.{from_le_bytes-to_le_bytes_8}
use Rattle.doc_values.specs.declared.kind.Kind.{Kind}
use Rattle.doc_values.specs.declared.value.Value as value
use Rattle.doc_values.specs.Value.{kind_of}
use Rattle.document_records.specs.StoredValue.{bytes_of, value_in, ReadsBack, AreToldApart}

pub reads_back : ReadsBack
reads_back (value.TheVariants.Bool true) h = refl
reads_back (value.TheVariants.Bool false) h = refl
reads_back (value.TheVariants.Int n) h =
    let fits : FitsSigned w64 n = omega (arith, ints) in
    let back : from_le_bytes w64 (to_le_bytes w64 (cast_unsigned w64 n)) ≡ cast_unsigned w64 n = from_le_bytes-to_le_bytes_8 (cast_unsigned w64 n) (omega (arith, ints)) in
    ap (λ (m : ℕ). value.TheVariants.Int (cast_signed w64 m)) back ∙ ap value.TheVariants.Int (to_z-of_z w64 n fits)
reads_back (value.TheVariants.Text s) h = refl
reads_back (value.TheVariants.Array s) h = refl
reads_back value.TheVariants.Object h = refl

pub told_apart : AreToldApart
told_apart a b h k kinds bytes =
    sym (reads_back a h) ∙ ap (λ (of : Kind). value_in of (bytes_of a)) kinds ∙ ap (value_in (kind_of b)) bytes ∙ reads_back b k
