-- What putting a field in leaves: of the list, and of its spelling.
use Rattle.std.proofs.Common.{◌≡◌, ℕ, zero, suc, ◌+◌, ◌<◌, ◌≤◌, true, false, ltb, List, [], ◌∷◌, ◌++◌, length, get_or, take, drop, None, refl, sym, ap, ◌∙◌, inl, inr, arith}
use Rattle.std.proofs.lemmas.Bool.{lt-ltb, le-ltb, cases_lt}
use Rattle.std.proofs.lemmas.List.{length-append, append_assoc}
use Rattle.reservoir_record.specs.declared.fields.Field.{Field}
use Rattle.reservoir_record.specs.Spelling.{numbers, values, offsets, Ascends, AreFields, Spells}
use Rattle.reservoir_record.specs.Editing.{with_field}
use Rattle.reservoir_record.specs.Finding.{value_of, StandsAt, FitsAt}
use Rattle.reservoir_record.proofs.Told.{Told, told}
use Rattle.reservoir_record.proofs.Found.{value_first, value_later, found_here}
use Rattle.reservoir_record.proofs.Turned.{raised}

-- where the values begin
abbrev pub starts : ℕ → List Field → List ℕ
starts at [] = []
starts at (f ∷ fs) = at ∷ starts (at + length f.bytes) fs

pub offsets-append : (at : ℕ) (a b : List Field) → offsets at (a ++ b) ≡ starts at a ++ offsets (at + length (values a)) b
offsets-append at [] b = let same : at ≡ at + 0 = omega arith in ap (λ (n : ℕ). offsets n b) same
offsets-append at (f ∷ a) b =
    let on : at + length f.bytes + length (values a) ≡ at + length (f.bytes ++ values a) = omega (arith, length-append f.bytes (values a)) in
    ap (λ (r : List ℕ). at ∷ r) (offsets-append (at + length f.bytes) a b ∙ ap (λ (n : ℕ). starts (at + length f.bytes) a ++ offsets n b) on)

pub offsets-raised : (at by : ℕ) (fs : List Field) → offsets (at + by) fs ≡ raised by (offsets at fs)
offsets-raised at by [] = refl
offsets-raised at by (f ∷ fs) =
    let on : at + by + length f.bytes ≡ at + length f.bytes + by = omega arith in
    ap (λ (r : List ℕ). (at + by) ∷ r) (ap (λ (n : ℕ). offsets n fs) on ∙ offsets-raised (at + length f.bytes) by fs)

-- the fields, parted at a place
parted : (fs : List Field) (k : ℕ) → take k fs ++ drop k fs ≡ fs
parted fs k = Rattle.std.proofs.lemmas.List.take-append-drop k fs

-- with a number that would stand at a place, the field is put in there
pub with_at : (id : ℕ) (v : List ℕ) (fs : List Field) (k : ℕ) → k ≤ length fs → ((i : ℕ) → i < k → get_or (numbers fs) i 0 < id) → ((i : ℕ) → k ≤ i → i < length fs → id < get_or (numbers fs) i 0)
    → with_field id v fs ≡ take k fs ++ (record { id = id; bytes = v } ∷ drop k fs)
with_at id v [] zero le below above = refl
with_at id v [] (suc k) le below above = absurd (omega arith)
with_at id v (f ∷ fs) zero le below above = let test : ltb id f.id ≡ true = lt-ltb id f.id (above 0 (omega arith) (omega arith)) in rw test refl
with_at id v (f ∷ fs) (suc k) le below above =
    let test : ltb id f.id ≡ false = le-ltb id f.id (omega (arith, below 0 (omega arith))) in
    rw test (ap (λ (r : List Field). f ∷ r) (with_at id v fs k (omega arith) (λ i lt. below (suc i) (omega arith)) (λ i from lt. above (suc i) (omega arith) (omega arith))))

-- a number that no field has is not the first one's, nor any later one's
not_first : (id : ℕ) (f : Field) (fs : List Field) → value_of id (f ∷ fs) ≡ None → f.id ≡ id → ⊥
not_first id f fs absent same = let there = value_first id f fs same in cc

absent_later : (id : ℕ) (f : Field) (fs : List Field) → value_of id (f ∷ fs) ≡ None → value_of id fs ≡ None
absent_later id f fs absent = sym (value_later id f fs (not_first id f fs absent)) ∙ absent

-- the numbers of the edited fields ascend
pub ascends_with : (least id : ℕ) (v : List ℕ) (fs : List Field) → Ascends least fs → least ≤ id → id < 65536 → value_of id fs ≡ None → Ascends least (with_field id v fs)
ascends_with least id v [] s le small absent = (le, small, tt)
ascends_with least id v (f ∷ fs) s le small absent =
    let unlike : f.id ≡ id → ⊥ = not_first id f fs absent in
    elim (cases_lt id f.id) [
      | inl lt ↦ let test : ltb id f.id ≡ true = lt-ltb id f.id lt in
          rw test (le, small, (omega arith, s.1, s.2))
      | inr ge ↦ let test : ltb id f.id ≡ false = le-ltb id f.id ge in
          let after : f.id + 1 ≤ id = omega (arith, unlike) in
          rw test (s.0, s.1, ascends_with (f.id + 1) id v fs s.2 after small (absent_later id f fs absent))
    ]

-- a number that no field has stands at no place
pub stands_nowhere : (fields : List Field) (bytes : List ℕ) (id k : ℕ) → Spells fields bytes → value_of id fields ≡ None → StandsAt bytes (length fields) id k → ⊥
stands_nowhere fields bytes id k s absent at = let there = found_here fields bytes (length fields) id k s refl at in cc

longer_with : (id : ℕ) (v : List ℕ) (fs : List Field) → length (values (with_field id v fs)) ≡ length (values fs) + length v
longer_with id v [] = omega (arith, length-append v [])
longer_with id v (f ∷ fs) =
    elim (cases_lt id f.id) [
      | inl lt ↦ let test : ltb id f.id ≡ true = lt-ltb id f.id lt in
          rw test (omega (arith, length-append v (values (f ∷ fs))))
      | inr ge ↦ let test : ltb id f.id ≡ false = le-ltb id f.id ge in
          rw test (omega (arith, length-append f.bytes (values (with_field id v fs)), length-append f.bytes (values fs), longer_with id v fs))
    ]

-- the edited fields are those of a record
pub are_fields_with : (id : ℕ) (v : List ℕ) (fs : List Field) → AreFields fs → id < 65536 → value_of id fs ≡ None → length (values fs) + length v ≤ 16777216 → AreFields (with_field id v fs)
are_fields_with id v fs s small absent fit = record { ascend = ascends_with 0 id v fs s.ascend (omega arith) small absent; fit = omega (arith, longer_with id v fs) }

-- the field is put in where it fits
pub with_here : (fields : List Field) (bytes : List ℕ) (id k : ℕ) (v : List ℕ) → Spells fields bytes → FitsAt bytes (length fields) id k → with_field id v fields ≡ take k fields ++ (record { id = id; bytes = v } ∷ drop k fields)
with_here fields bytes id k v s at =
    let t : Told fields bytes = told fields bytes s in
    with_at id v fields k at.within (λ i lt. omega (arith, at.below i lt, t.number i (omega (arith, at.within)))) (λ i from lt. omega (arith, at.above i from lt, t.number i lt))
