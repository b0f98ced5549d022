-- The fields with one put in, and with one taken out.
use Rattle.std.specs.Prelude.{ℕ, ◌==◌, List, [], ◌∷◌, nat_lt, not, if◌then◌else◌}
use Rattle.std.specs.List.{filter}
use Rattle.reservoir_record.specs.declared.fields.Field.{Field}

-- The fields with a field put in where its number belongs.
abbrev pub with_field : ℕ → List ℕ → List Field → List Field
with_field id value [] = record { id = id; bytes = value } ∷ []
with_field id value (f ∷ fs) = if nat_lt id f.id then record { id = id; bytes = value } ∷ (f ∷ fs) else f ∷ with_field id value fs

-- The fields but those with a number.
abbrev pub without_field : ℕ → List Field → List Field
without_field id fields = filter (λ f. not (f.id == id)) fields
