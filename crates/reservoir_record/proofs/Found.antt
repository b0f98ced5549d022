-- What a table's places say of the one list of fields.
use Rattle.std.proofs.Common.{◌≡◌, ℕ, zero, suc, ◌+◌, ◌*◌, ◌-◌, ◌<◌, true, false, eqb, List, [], ◌∷◌, ◌++◌, length, get_or, take, drop, Some, None, slice_get, refl, sym, ap, ◌∙◌, add-one, inl, inr, arith}
use Rattle.std.proofs.lemmas.Bool.{eq-eqb, ne_eqb, cases_lt}
use Rattle.std.proofs.lemmas.List.{length-append, drop_at, take_at, drop-drop, drop_all, drop_more}
use Rattle.reservoir_record.specs.declared.fields.Field.{Field}
use Rattle.reservoir_record.specs.Spelling.{numbers, values, Ascends, Spells}
use Rattle.reservoir_record.specs.Words.{number_at, offset_at, value_at}
use Rattle.reservoir_record.specs.Finding.{value_of, StandsAt, FitsAt}
use Rattle.reservoir_record.specs.Walking.{fields_from}
use Rattle.reservoir_record.proofs.Lists.{numbers_from, value_split}
use Rattle.reservoir_record.proofs.Told.{Told, told}

-- how much longer the values are by one field
pub value_len : (fs : List Field) (k : ℕ) (d : Field) → k < length fs → length (values (take (suc k) fs)) ≡ length (values (take k fs)) + length (get_or fs k d).bytes
value_len [] k d lt = absurd (omega arith)
value_len (f ∷ fs) zero d lt = omega (arith, length-append f.bytes [])
value_len (f ∷ fs) (suc k) d lt = omega (arith, length-append f.bytes (values (take (suc k) fs)), length-append f.bytes (values (take k fs)), value_len fs k d (omega arith))

-- the value at a place is that of the field there
pub value_here : (fields : List Field) (bytes : List ℕ) → Spells fields bytes → (k : ℕ) (d : Field) → k < length fields → value_at bytes (length fields) k ≡ (get_or fields k d).bytes
value_here fields bytes s k d lt =
    let t : Told fields bytes = told fields bytes s in
    let from : offset_at bytes (length fields) k ≡ length (values (take k fields)) = t.offset k (omega arith) in
    let to : offset_at bytes (length fields) (k + 1) ≡ length (values (take k fields)) + length (get_or fields k d).bytes = t.offset (k + 1) (omega arith) ∙ ap (λ (n : ℕ). length (values (take n fields))) (add-one k) ∙ value_len fields k d lt in
    let many : offset_at bytes (length fields) (k + 1) - offset_at bytes (length fields) k ≡ length (get_or fields k d).bytes = omega arith in
    let rest : drop (8 + 8 * length fields + offset_at bytes (length fields) k) bytes ≡ (get_or fields k d).bytes ++ values (drop (suc k) fields) =
    ap (λ (n : ℕ). drop (8 + 8 * length fields + n) bytes) from
    ∙ sym (drop-drop (length (values (take k fields))) (8 + 8 * length fields) bytes)
    ∙ ap (drop (length (values (take k fields)))) (t.behind ∙ value_split fields k d lt)
    ∙ drop_at (values (take k fields)) ((get_or fields k d).bytes ++ values (drop (suc k) fields)) (length (values (take k fields))) refl in
    ap (λ (n : ℕ). take n (drop (8 + 8 * length fields + offset_at bytes (length fields) k) bytes)) many
    ∙ ap (take (length (get_or fields k d).bytes)) rest
    ∙ take_at (get_or fields k d).bytes (values (drop (suc k) fields)) (length (get_or fields k d).bytes) refl

-- the number at a place is that of the field there
get-numbers : (fs : List Field) (k : ℕ) (d : Field) → k < length fs → get_or (numbers fs) k 0 ≡ (get_or fs k d).id
get-numbers [] k d lt = absurd (omega arith)
get-numbers (f ∷ fs) zero d lt = refl
get-numbers (f ∷ fs) (suc k) d lt = get-numbers fs k d (omega arith)

got : (fs : List Field) (k : ℕ) (d : Field) → k < length fs → slice_get fs k ≡ Some (get_or fs k d)
got [] k d lt = absurd (omega arith)
got (f ∷ fs) zero d lt = refl
got (f ∷ fs) (suc k) d lt = got fs k d (omega arith)

made_field : (f : Field) (id : ℕ) (bytes : List ℕ) → id ≡ f.id → bytes ≡ f.bytes → f ≡ record { id = id; bytes = bytes }
made_field f id bytes i b = ap (λ (x : ℕ). let made : Field = record { id = x; bytes = f.bytes } in made) (sym i) ∙ ap (λ (x : List ℕ). let made : Field = record { id = id; bytes = x } in made) (sym b)

-- the field at a place, from what stands there
pub field_here : (fields : List Field) (bytes : List ℕ) → Spells fields bytes → (k id : ℕ) (value : List ℕ) → k < length fields → id ≡ number_at bytes k → value ≡ value_at bytes (length fields) k → slice_get fields k ≡ Some (record { id = id; bytes = value })
field_here fields bytes s k id value lt i v =
    let t : Told fields bytes = told fields bytes s in
    let d : Field = record { id = 0; bytes = [] } in
    let number : id ≡ (get_or fields k d).id = i ∙ t.number k lt ∙ get-numbers fields k d lt in
    let text : value ≡ (get_or fields k d).bytes = v ∙ value_here fields bytes s k d lt in
    got fields k d lt ∙ ap (λ (f : Field). Some f) (made_field (get_or fields k d) id value number text)

-- where the first field has the number
pub value_first : (id : ℕ) (f : Field) (fs : List Field) → f.id ≡ id → value_of id (f ∷ fs) ≡ Some f.bytes
value_first id f fs e = let test : eqb f.id id ≡ true = eq-eqb f.id id e in rw test refl

pub value_later : (id : ℕ) (f : Field) (fs : List Field) → (f.id ≡ id → ⊥) → value_of id (f ∷ fs) ≡ value_of id fs
value_later id f fs e = let test : eqb f.id id ≡ false = ne_eqb f.id id e in rw test refl

value_found : (least id : ℕ) (fs : List Field) → Ascends least fs → (k : ℕ) (d : Field) → k < length fs → get_or (numbers fs) k 0 ≡ id → value_of id fs ≡ Some (get_or fs k d).bytes
value_found least id [] s k d lt e = absurd (omega arith)
value_found least id (f ∷ fs) s zero d lt e = value_first id f fs e
value_found least id (f ∷ fs) s (suc k) d lt e =
    value_later id f fs (λ same. omega (arith, numbers_from (f.id + 1) fs s.2 k (omega arith))) ∙ value_found (f.id + 1) id fs s.2 k d (omega arith) e

value_missing : (id : ℕ) (fs : List Field) → ((k : ℕ) → k < length fs → get_or (numbers fs) k 0 ≡ id → ⊥) → value_of id fs ≡ None
value_missing id [] never = refl
value_missing id (f ∷ fs) never = value_later id f fs (never 0 (omega arith)) ∙ value_missing id fs (λ k lt. never (suc k) (omega arith))

-- what a search has found is the value of the number
pub found_here : (fields : List Field) (bytes : List ℕ) (count id k : ℕ) → Spells fields bytes → count ≡ length fields → StandsAt bytes count id k → Some (value_at bytes count k) ≡ value_of id fields
found_here fields bytes count id k s e at =
    let t : Told fields bytes = told fields bytes s in
    let d : Field = record { id = 0; bytes = [] } in
    let lt : k < length fields = omega (arith, at.within) in
    let number : get_or (numbers fields) k 0 ≡ id = sym (t.number k lt) ∙ at.here in
    ap (λ (n : ℕ). Some (value_at bytes n k)) e ∙ ap (λ (v : List ℕ). Some v) (value_here fields bytes s k d lt) ∙ sym (value_found 0 id fields s.lawful.ascend k d lt number)

-- a number that would stand at a place is no field's
pub missing_at : (fields : List Field) (bytes : List ℕ) (count id k : ℕ) → Spells fields bytes → count ≡ length fields → FitsAt bytes count id k → (i : ℕ) → i < length fields → get_or (numbers fields) i 0 ≡ id → ⊥
missing_at fields bytes count id k s e at i lt same =
    let t : Told fields bytes = told fields bytes s in
    let number : number_at bytes i ≡ id = t.number i lt ∙ same in
    elim (cases_lt i k) [ inl below ↦ omega (arith, at.below i below) | inr from ↦ omega (arith, at.above i from (omega arith)) ]

-- a number that would stand at a place stands at none
pub missing_here : (fields : List Field) (bytes : List ℕ) (count id k : ℕ) → Spells fields bytes → count ≡ length fields → FitsAt bytes count id k → None ≡ value_of id fields
missing_here fields bytes count id k s e at =
    sym (value_missing id fields (λ i lt same. missing_at fields bytes count id k s e at i lt same))

-- the fields from a place on are what is left of the list there
pub from_here : (fields : List Field) (bytes : List ℕ) → Spells fields bytes → (m k : ℕ) → k + m ≡ length fields → fields_from bytes (length fields) m k ≡ drop k fields
from_here fields bytes s zero k e = sym (drop_all k fields (omega arith))
from_here fields bytes s (suc m) k e =
    let t : Told fields bytes = told fields bytes s in
    let d : Field = record { id = 0; bytes = [] } in
    let lt : k < length fields = omega arith in
    let here : get_or fields k d ≡ record { id = number_at bytes k; bytes = value_at bytes (length fields) k } = made_field (get_or fields k d) (number_at bytes k) (value_at bytes (length fields) k) (t.number k lt ∙ get-numbers fields k d lt) (value_here fields bytes s k d lt) in
    let rest = from_here fields bytes s m (k + 1) (omega arith) in
    ap (λ (r : List Field). record { id = number_at bytes k; bytes = value_at bytes (length fields) k } ∷ r) rest ∙ ap (λ (f : Field). f ∷ drop (k + 1) fields) (sym here) ∙ sym (drop_more fields k d lt)
