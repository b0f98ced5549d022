-- Attributes that are changed by their numbers.
use Rattle.std.proofs.Common.{◌≡◌, ℕ, zero, suc, ◌<◌, ◌==◌, Bool, true, false, cond, List, [], ◌∷◌, length, map, set, Option, Some, slice_get, refl, sym, ap, ◌∙◌, arith, length-set}
use Rattle.std.specs.Option.{option_map_or}
use Rattle.std.proofs.lemmas.Bool.Decides.{nat_tests}
use Rattle.std.proofs.lemmas.Option.{same_Some, slice_get_within}
use Rattle.doc_values.specs.declared.attr_id.AttrId.{AttrId}
use Rattle.doc_values.specs.declared.kind.Kind.{Kind}
use Rattle.attr_catalog.specs.Attribute.{Attribute}
use Rattle.attr_catalog.specs.Catalog.{changed}
use Rattle.row_versions.proofs.Places.{get-within, get-set_same, get-set_other}
use Rattle.document_records.specs.StoredDocument.{pairs_of}
use Rattle.layout_store.specs.Documents.{counts_of}
use Rattle.layout_store.specs.Changes.{AreChanged}

pub equal_or_not : (a b : ℕ) (P : Type 0) → (a ≡ b → P) → ((a ≡ b → ⊥) → P) → P
equal_or_not a b P same other = by (a == b) refl
  where
    by : (t : Bool) → a == b ≡ t → P
    by true e = same (grind (arith, nat_tests))
    by false e = other (λ same. let sure : a == b ≡ true = grind (arith, nat_tests) in absurd (let both : true ≡ false = sym sure ∙ e in cc))

pub test_same : (n : ℕ) → n == n ≡ true
test_same n = grind (arith, nat_tests)

pub test_other : (a b : ℕ) → (a ≡ b → ⊥) → a == b ≡ false
test_other a b ne = by (a == b) refl
  where
    by : (t : Bool) → a == b ≡ t → a == b ≡ false
    by true e = absurd (ne (grind (arith, nat_tests)))
    by false e = e

-- one attribute is changed
abbrev pub at_one : (Attribute → Attribute) → ℕ → ℕ → Attribute → Attribute
at_one change id i a = cond (i == id) (change a) a

pub changed-some : (change : Attribute → Attribute) (id : AttrId) (list : List Attribute) (b : Attribute) → slice_get list id.0 ≡ Some b → changed change id list ≡ set list id.0 (change b)
changed-some change id list b e = ap (λ (o : Option Attribute). option_map_or (λ (x : Attribute). set list id.0 (change x)) o list) e

pub one-changed : (change : Attribute → Attribute) (id : AttrId) (list : List Attribute) → id.0 < length list → AreChanged (at_one change id.0) list (changed change id list)
one-changed change id list lt =
    let b = get-within list id.0 lt in
    let is = changed-some change id list b.0 b.1 in
    record {
      many = ap length is ∙ length-set list id.0 (change b.0);
      each = λ i a at. equal_or_not i id.0 (slice_get (changed change id list) i ≡ Some (at_one change id.0 i a))
          (λ same.
          let here : a ≡ b.0 = same_Some a b.0 (sym at ∙ ap (slice_get list) same ∙ b.1) in
          let test : i == id.0 ≡ true = ap (λ (n : ℕ). n == id.0) same ∙ test_same id.0 in
          ap (slice_get (changed change id list)) same ∙ ap (λ (xs : List Attribute). slice_get xs id.0) is ∙ get-set_same list id.0 (change b.0) b.0 b.1
          ∙ ap (λ (x : Attribute). Some (change x)) (sym here) ∙ ap (λ (t : Bool). Some (cond t (change a) a)) (sym test))
          (λ ne.
          ap (λ (xs : List Attribute). slice_get xs i) is ∙ get-set_other list id.0 (change b.0) i ne ∙ at ∙ ap (λ (t : Bool). Some (cond t (change a) a)) (sym (test_other i id.0 ne)));
    }

-- The attribute that was changed.
pub changed-back : (change : ℕ → Attribute → Attribute) (list bs : List Attribute) → AreChanged change list bs → (i : ℕ) (b : Attribute) → slice_get bs i ≡ Some b → (a : Attribute) × (slice_get list i ≡ Some a) × (b ≡ change i a)
changed-back change list bs h i b at =
    let lt = slice_get_within bs i b at in
    let a = get-within list i (omega (arith, h.many)) in
    (a.0, a.1, same_Some b (change i a.0) (sym at ∙ h.each i a.0 a.1))

pub changed-twice : (f g : ℕ → Attribute → Attribute) (list bs cs : List Attribute) → AreChanged f list bs → AreChanged g bs cs → AreChanged (λ i a. g i (f i a)) list cs
changed-twice f g list bs cs h k = record { many = k.many ∙ h.many; each = λ i a at. k.each i (f i a) (h.each i a at) }

pub changed-alike : (f g : ℕ → Attribute → Attribute) (list bs : List Attribute) → AreChanged f list bs → ((i : ℕ) (a : Attribute) → slice_get list i ≡ Some a → f i a ≡ g i a) → AreChanged g list bs
changed-alike f g list bs h same = record { many = h.many; each = λ i a at. h.each i a at ∙ ap (λ (x : Attribute). Some x) (same i a at) }

pub changed-none : (f : ℕ → Attribute → Attribute) (list : List Attribute) → ((i : ℕ) (a : Attribute) → f i a ≡ a) → AreChanged f list list
changed-none f list same = record { many = refl; each = λ i a at. at ∙ ap (λ (x : Attribute). Some x) (sym (same i a)) }

-- What all attributes keep, their list keeps.
pub map-kept : {Y : Type 0} (see : Attribute → Y) (change : ℕ → Attribute → Attribute) (list bs : List Attribute) → length bs ≡ length list → ((i : ℕ) (a : Attribute) → slice_get list i ≡ Some a → slice_get bs i ≡ Some (change i a))
    → ((i : ℕ) (a : Attribute) → see (change i a) ≡ see a) → map see bs ≡ map see list
map-kept see change [] [] many each same = refl
map-kept see change [] (b ∷ bs) many each same = absurd (omega (arith, many))
map-kept see change (a ∷ list) [] many each same = absurd (omega (arith, many))
map-kept see change (a ∷ list) (b ∷ bs) many each same =
    let here : b ≡ change zero a = same_Some b (change zero a) (each zero a refl) in
    let first = ap see here ∙ same zero a in
    let rest = map-kept see (λ i. change (suc i)) list bs (omega (arith, many)) (λ i x at. each (suc i) x at) (λ i x. same (suc i) x) in
    λ i. first i ∷ rest i

pub pairs-kept : (change : ℕ → Attribute → Attribute) (list bs : List Attribute) → AreChanged change list bs → ((i : ℕ) (a : Attribute) → let p : List ℕ × Kind = ((change i a).name, (change i a).kind) in p ≡ (a.name, a.kind)) → pairs_of bs ≡ pairs_of list
pairs-kept change list bs h same = map-kept (λ a. (a.name, a.kind)) change list bs h.many h.each same

pub counts-kept : (change : ℕ → Attribute → Attribute) (list bs : List Attribute) → AreChanged change list bs → ((i : ℕ) (a : Attribute) → (change i a).count ≡ a.count) → counts_of bs ≡ counts_of list
counts-kept change list bs h same = map-kept (λ a. a.count) change list bs h.many h.each same

-- ---- one attribute, changed twice

set_twice : {X : Type 0} (xs : List X) (k : ℕ) (x y : X) → set (set xs k x) k y ≡ set xs k y
set_twice [] k x y = refl
set_twice (z ∷ zs) zero x y = refl
set_twice (z ∷ zs) (suc k) x y = ap (λ l. z ∷ l) (set_twice zs k x y)

pub then-changed : (f g change : Attribute → Attribute) (id : AttrId) (list : List Attribute) (a : Attribute) → slice_get list id.0 ≡ Some a → g (f a) ≡ change a → changed g id (changed f id list) ≡ changed change id list
then-changed f g change id list a at same =
    let first = changed-some f id list a at in
    let now : slice_get (changed f id list) id.0 ≡ Some (f a) = ap (λ l. slice_get l id.0) first ∙ get-set_same list id.0 (f a) a at in
    changed-some g id (changed f id list) (f a) now ∙ ap (λ l. set l id.0 (g (f a))) first ∙ set_twice list id.0 (f a) (g (f a)) ∙ ap (set list id.0) same ∙ sym (changed-some change id list a at)
