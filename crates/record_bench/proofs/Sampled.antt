-- Fields made one after another.
use Rattle.std.proofs.Common.{◌≡◌, ℕ, zero, suc, ◌+◌, ◌*◌, ◌<◌, ◌≤◌, List, [], ◌∷◌, ◌++◌, length, get_or, take, ap, arith}
use Rattle.std.proofs.lemmas.List.{length-append}
use Rattle.std.proofs.lemmas.List.Concat.{flat_map-append}
use Rattle.reservoir_record.specs.declared.fields.Field.{Field}
use Rattle.reservoir_record.specs.Spelling.{numbers, values, Ascends}

-- so many fields of eight bytes each, with lower numbers
pub record Made (fields : List Field) (id : ℕ) : Type 0 where
  pub ascend : Ascends 0 fields
  pub below : (k : ℕ) → k < length fields → get_or (numbers fields) k 0 < id
  pub fit : length (values fields) ≡ 8 * id

ascends_more : (least : ℕ) (fs : List Field) (f : Field) → Ascends least fs → ((k : ℕ) → k < length fs → get_or (numbers fs) k 0 < f.id) → least ≤ f.id → f.id < 65536 → Ascends least (fs ++ (f ∷ []))
ascends_more least [] f s below le small = (le, small, tt)
ascends_more least (g ∷ fs) f s below le small = (s.0, s.1, ascends_more (g.id + 1) fs f s.2 (λ k lt. below (suc k) (omega arith)) (omega (arith, below 0 (omega arith))) small)

below_more : (fs : List Field) (f : Field) (id : ℕ) → f.id < id → ((k : ℕ) → k < length fs → get_or (numbers fs) k 0 < id) → (k : ℕ) → k < length (fs ++ (f ∷ [])) → get_or (numbers (fs ++ (f ∷ []))) k 0 < id
below_more [] f id here below zero lt = here
below_more [] f id here below (suc k) lt = omega arith
below_more (g ∷ fs) f id here below zero lt = below 0 (omega arith)
below_more (g ∷ fs) f id here below (suc k) lt = below_more fs f id here (λ j lt2. below (suc j) (omega arith)) k (omega arith)

pub made_more : (fields : List Field) (f : Field) (id : ℕ) → Made fields id → f.id ≡ id → length f.bytes ≡ 8 → id < 65536 → Made (fields ++ (f ∷ [])) (id + 1)
made_more fields f id m same eight small = record {
  ascend = ascends_more 0 fields f m.ascend (λ k lt. omega (arith, m.below k lt)) (omega arith) (omega arith);
  below = below_more fields f (id + 1) (omega arith) (λ k lt. omega (arith, m.below k lt));
  fit = omega (arith, m.fit, ap length (flat_map-append (λ (g : Field). g.bytes) fields (f ∷ [])), length-append (values fields) (values (f ∷ [])), length-append f.bytes []);
}

-- a field's value is among those of all
pub fits_more : (fields : List Field) (k : ℕ) (d : Field) → k < length fields → length (values (take k fields)) + length (get_or fields k d).bytes ≤ length (values fields)
fits_more [] k d lt = absurd (omega arith)
fits_more (f ∷ fs) zero d lt = omega (arith, length-append f.bytes (values fs))
fits_more (f ∷ fs) (suc k) d lt = omega (arith, fits_more fs k d (omega arith), length-append f.bytes (values (take k fs)), length-append f.bytes (values fs))
