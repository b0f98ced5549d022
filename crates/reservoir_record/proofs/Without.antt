-- The fields but the one with a number: of the list, and where it is cut.
use Rattle.std.proofs.Common.{◌≡◌, ℕ, zero, suc, ◌+◌, ◌<◌, ◌≤◌, Bool, true, false, eqb, List, [], ◌∷◌, ◌++◌, length, get_or, take, drop, refl, sym, ap, ◌∙◌, add-one, inl, inr, arith}
use Rattle.std.proofs.lemmas.Bool.{eq-eqb, ne_eqb, cases_lt}
use Rattle.std.proofs.lemmas.List.{length-append}
use Rattle.reservoir_record.specs.declared.fields.Field.{Field}
use Rattle.reservoir_record.specs.Spelling.{numbers, values, Ascends, AreFields, Spells}
use Rattle.reservoir_record.specs.Editing.{without_field}
use Rattle.reservoir_record.specs.Finding.{StandsAt, FitsAt}
use Rattle.reservoir_record.proofs.Lists.{numbers_rise}
use Rattle.reservoir_record.proofs.Told.{Told, told}
use Rattle.reservoir_record.proofs.Found.{missing_at}

-- without a number that no field has, all stay
all_stay : (id : ℕ) (fs : List Field) → ((i : ℕ) → i < length fs → get_or (numbers fs) i 0 ≡ id → ⊥) → without_field id fs ≡ fs
all_stay id [] never = refl
all_stay id (f ∷ fs) never =
    let test : eqb f.id id ≡ false = ne_eqb f.id id (never 0 (omega arith)) in
    rw test (ap (λ (r : List Field). f ∷ r) (all_stay id fs (λ i lt. never (suc i) (omega arith))))

-- without the number of one place only, the field there goes
without_at : (id : ℕ) (fs : List Field) (k : ℕ) → k < length fs → get_or (numbers fs) k 0 ≡ id → ((i : ℕ) → i < length fs → get_or (numbers fs) i 0 ≡ id → i ≡ k) → without_field id fs ≡ take k fs ++ drop (suc k) fs
without_at id [] k lt here only = absurd (omega arith)
without_at id (f ∷ fs) zero lt here only =
    let test : eqb f.id id ≡ true = eq-eqb f.id id here in
    rw test (all_stay id fs (λ i lt2 same. omega (arith, only (suc i) (omega arith) same)))
without_at id (f ∷ fs) (suc k) lt here only =
    let test : eqb f.id id ≡ false = ne_eqb f.id id (λ same. omega (arith, only 0 (omega arith) same)) in
    rw test (ap (λ (r : List Field). f ∷ r) (without_at id fs k (omega arith) here (λ i lt2 same. omega (arith, only (suc i) (omega arith) same))))

-- the fields, cut where the number stands
pub without_here : (fields : List Field) (bytes : List ℕ) (id k : ℕ) → Spells fields bytes → StandsAt bytes (length fields) id k → without_field id fields ≡ take k fields ++ drop (k + 1) fields
without_here fields bytes id k s at =
    let t : Told fields bytes = told fields bytes s in
    let here : get_or (numbers fields) k 0 ≡ id = sym (t.number k at.within) ∙ at.here in
    let only : (i : ℕ) → i < length fields → get_or (numbers fields) i 0 ≡ id → i ≡ k = λ i lt same. elim (cases_lt i k) [
      | inl below ↦ omega (arith, numbers_rise 0 fields s.lawful.ascend i k below at.within)
      | inr from ↦ elim (cases_lt k i) [ inl above ↦ omega (arith, numbers_rise 0 fields s.lawful.ascend k i above lt) | inr most ↦ omega arith ]
    ] in
    without_at id fields k at.within here only ∙ ap (λ (n : ℕ). take k fields ++ drop n fields) (sym (add-one k))

-- without a number that would stand at a place, all stay
pub without_none : (fields : List Field) (bytes : List ℕ) (id k : ℕ) → Spells fields bytes → FitsAt bytes (length fields) id k → without_field id fields ≡ fields
without_none fields bytes id k s at = all_stay id fields (missing_at fields bytes (length fields) id k s refl at)

from_lower : (least from : ℕ) (fs : List Field) → least ≤ from → Ascends from fs → Ascends least fs
from_lower least from [] le s = tt
from_lower least from (f ∷ fs) le s = (omega (arith, s.0), s.1, s.2)

ascends_by : (least id : ℕ) (f : Field) (fs : List Field) (b : Bool) → eqb f.id id ≡ b → Ascends least (f ∷ fs) → Ascends (f.id + 1) (without_field id fs) → Ascends least (without_field id (f ∷ fs))
ascends_by least id f fs true e s later = rw e (from_lower least (f.id + 1) (without_field id fs) (omega (arith, s.0)) later)
ascends_by least id f fs false e s later = rw e (s.0, s.1, later)

ascends_without : (least id : ℕ) (fs : List Field) → Ascends least fs → Ascends least (without_field id fs)
ascends_without least id [] s = tt
ascends_without least id (f ∷ fs) s = ascends_by least id f fs (eqb f.id id) refl s (ascends_without (f.id + 1) id fs s.2)

shorter_by : (id : ℕ) (f : Field) (fs : List Field) (b : Bool) → eqb f.id id ≡ b → length (values (without_field id fs)) ≤ length (values fs) → length (values (without_field id (f ∷ fs))) ≤ length (values (f ∷ fs))
shorter_by id f fs true e later = rw e (omega (arith, length-append f.bytes (values fs)))
shorter_by id f fs false e later = rw e (omega (arith, length-append f.bytes (values fs), length-append f.bytes (values (without_field id fs))))

shorter_without : (id : ℕ) (fs : List Field) → length (values (without_field id fs)) ≤ length (values fs)
shorter_without id [] = omega arith
shorter_without id (f ∷ fs) = shorter_by id f fs (eqb f.id id) refl (shorter_without id fs)

-- the fields that stay are those of a record
pub are_fields_without : (id : ℕ) (fs : List Field) → AreFields fs → AreFields (without_field id fs)
are_fields_without id fs s = record { ascend = ascends_without 0 id fs s.ascend; fit = omega (arith, shorter_without id fs, s.fit) }
