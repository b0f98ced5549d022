-- The numbers, the offsets and the values of a list of fields.
use Rattle.std.proofs.Common.{◌≡◌, ℕ, zero, suc, ◌+◌, ◌<◌, ◌≤◌, List, [], ◌∷◌, ◌++◌, length, get_or, take, drop, refl, sym, ap, ◌∙◌, add-one, arith}
use Rattle.std.proofs.lemmas.List.{length-append}
use Rattle.reservoir_record.specs.declared.fields.Field.{Field}
use Rattle.reservoir_record.specs.Spelling.{numbers, values, offsets, ends, Ascends}

pub length-offsets : (at : ℕ) (fs : List Field) → length (offsets at fs) ≡ length fs + 1
length-offsets at [] = omega arith
length-offsets at (f ∷ fs) = omega (arith, length-offsets (at + length f.bytes) fs)

pub get-offsets : (at : ℕ) (fs : List Field) (k : ℕ) → k ≤ length fs → get_or (offsets at fs) k 0 ≡ at + length (values (take k fs))
get-offsets at [] zero le = omega arith
get-offsets at [] (suc k) le = absurd (omega arith)
get-offsets at (f ∷ fs) zero le = omega arith
get-offsets at (f ∷ fs) (suc k) le = omega (arith, get-offsets (at + length f.bytes) fs k (omega arith), length-append f.bytes (values (take k fs)))

pub offsets_small : (at : ℕ) (fs : List Field) (k : ℕ) → get_or (offsets at fs) k 0 ≤ at + length (values fs)
offsets_small at [] zero = omega arith
offsets_small at [] (suc k) = omega arith
offsets_small at (f ∷ fs) zero = omega arith
offsets_small at (f ∷ fs) (suc k) = omega (arith, offsets_small (at + length f.bytes) fs k, length-append f.bytes (values fs))

pub numbers_small : (least : ℕ) (fs : List Field) → Ascends least fs → (k : ℕ) → get_or (numbers fs) k 0 < 65536
numbers_small least [] s k = omega arith
numbers_small least (f ∷ fs) s zero = s.1
numbers_small least (f ∷ fs) s (suc k) = numbers_small (f.id + 1) fs s.2 k

-- so many numbers there can be
pub few : (least : ℕ) (fs : List Field) → Ascends least fs → least ≤ 65536 → least + length fs ≤ 65536
few least [] s le = omega arith
few least (f ∷ fs) s le = omega (arith, s.0, few (f.id + 1) fs s.2 (omega (arith, s.1)))

-- no number is below the least
pub numbers_from : (least : ℕ) (fs : List Field) → Ascends least fs → (k : ℕ) → k < length fs → least ≤ get_or (numbers fs) k 0
numbers_from least [] s k lt = absurd (omega arith)
numbers_from least (f ∷ fs) s zero lt = s.0
numbers_from least (f ∷ fs) s (suc k) lt = omega (arith, s.0, numbers_from (f.id + 1) fs s.2 k (omega arith))

-- of two places the later one has the greater number
pub numbers_rise : (least : ℕ) (fs : List Field) → Ascends least fs → (i j : ℕ) → i < j → j < length fs → get_or (numbers fs) i 0 < get_or (numbers fs) j 0
numbers_rise least [] s i j lt in_range = absurd (omega arith)
numbers_rise least (f ∷ fs) s i zero lt in_range = absurd (omega arith)
numbers_rise least (f ∷ fs) s zero (suc j) lt in_range = omega (arith, numbers_from (f.id + 1) fs s.2 j (omega arith))
numbers_rise least (f ∷ fs) s (suc i) (suc j) lt in_range = numbers_rise (f.id + 1) fs s.2 i j (omega arith) (omega arith)

-- the value at a place, and the values before and behind it
pub value_split : (fs : List Field) (k : ℕ) (d : Field) → k < length fs → values fs ≡ values (take k fs) ++ ((get_or fs k d).bytes ++ values (drop (suc k) fs))
value_split [] k d lt = absurd (omega arith)
value_split (f ∷ fs) zero d lt = refl
value_split (f ∷ fs) (suc k) d lt =
    ap (λ (r : List ℕ). f.bytes ++ r) (value_split fs k d (omega arith)) ∙ sym (Rattle.std.proofs.lemmas.List.append_assoc f.bytes (values (take k fs)) ((get_or fs k d).bytes ++ values (drop (suc k) fs)))

-- more fields have no shorter values
longer_suc : (fs : List Field) (k : ℕ) → length (values (take k fs)) ≤ length (values (take (suc k) fs))
longer_suc [] zero = omega arith
longer_suc [] (suc k) = omega arith
longer_suc (f ∷ fs) zero = omega arith
longer_suc (f ∷ fs) (suc k) = omega (arith, longer_suc fs k, length-append f.bytes (values (take k fs)), length-append f.bytes (values (take (suc k) fs)))

pub longer : (fs : List Field) (k : ℕ) → length (values (take k fs)) ≤ length (values (take (k + 1) fs))
longer fs k = rw add-one (longer_suc fs k)

pub offsets_are : (at : ℕ) (fs : List Field) → offsets at fs ≡ at ∷ ends at fs
offsets_are at [] = refl
offsets_are at (f ∷ fs) = ap (λ (r : List ℕ). at ∷ r) (offsets_are (at + length f.bytes) fs)
