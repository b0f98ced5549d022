-- Lists cut short, and the documents of fields that stand under pairs cut short.
use Rattle.std.proofs.Common.{◌≡◌, ℕ, zero, suc, ◌<◌, ◌≤◌, List, [], ◌∷◌, ◌++◌, length, take, drop, min, Option, Some, None, slice_get, refl, sym, ap, subst, ◌∙◌, arith}
use Rattle.std.specs.Prelude.{All, MatchOption}
use Rattle.std.specs.List.{AllByRecursion}
use Rattle.std.specs.Option.{option_map_or}
use Rattle.std.proofs.lemmas.List.{length-take}
use Rattle.std.proofs.lemmas.List.Elements.{All-nil, All-cons, All-from_recursion, recursion_from_All}
use Rattle.std.proofs.lemmas.Option.{slice_get_within, slice_get_past}
use Rattle.doc_values.specs.Doc.{Fields, with_field}
use Rattle.doc_values.specs.declared.kind.Kind.{Kind}
use Rattle.reservoir_record.specs.declared.fields.Field.{Field}
use Rattle.attr_catalog.specs.Attribute.{Attribute}
use Rattle.document_records.specs.StoredValue.{value_in}
use Rattle.document_records.specs.StoredDocument.{Pairs, pairs_of, with_stored, document_stored, IsStored, IsHeld, IsKept}
use Rattle.layout_store.specs.Changes.{AreChanged}
use Rattle.layout_store.specs.Documents.{field_if, fields_below}
use Rattle.layout_store.proofs.Pairs.{get_taken}

-- ---- lists

pub get-take : {X : Type 0} (xs : List X) (n i : ℕ) → i < n → slice_get (take n xs) i ≡ slice_get xs i
get-take [] zero i lt = refl
get-take [] (suc n) i lt = refl
get-take (y ∷ xs) zero i lt = absurd (omega arith)
get-take (y ∷ xs) (suc n) zero lt = refl
get-take (y ∷ xs) (suc n) (suc i) lt = get-take xs n i (omega arith)

take_short : {X : Type 0} (xs : List X) (n : ℕ) → length (take n xs) ≤ n
take_short [] zero = omega arith
take_short [] (suc n) = omega arith
take_short (y ∷ xs) zero = omega arith
take_short (y ∷ xs) (suc n) = omega (arith, take_short xs n)

pub take-past : {X : Type 0} (xs : List X) (n i : ℕ) → n ≤ i → slice_get (take n xs) i ≡ None
take-past xs n i le = slice_get_past (take n xs) i (omega (arith, take_short xs n))

pub changed-take : (f : ℕ → Attribute → Attribute) (xs ys : List Attribute) (n : ℕ) → AreChanged f xs ys → AreChanged f (take n xs) (take n ys)
changed-take f xs ys n h = record {
  many = length-take n ys ∙ ap (min n) h.many ∙ sym (length-take n xs);
  each = λ i a at.
      let lt = slice_get_within (take n xs) i a at in
      get-take ys n i (omega (arith, lt, take_short xs n)) ∙ h.each i a (get_taken xs n i a at);
}

all_from : {X : Type 0} (P : X → Type 0) (xs : List X) → ((i : ℕ) (x : X) → slice_get xs i ≡ Some x → P x) → All P xs
all_from P [] h = All-nil P
all_from P (x ∷ xs) h = All-cons P x xs (h 0 x refl) (all_from P xs (λ i y at. h (suc i) y at))

pub all-drop : {X : Type 0} (P : X → Type 0) (xs : List X) (n : ℕ) → ((i : ℕ) (x : X) → n ≤ i → slice_get xs i ≡ Some x → P x) → All P (drop n xs)
all-drop P [] zero h = All-nil P
all-drop P [] (suc n) h = All-nil P
all-drop P (x ∷ xs) zero h = all_from P (x ∷ xs) (λ i y at. h i y (omega arith) at)
all-drop P (x ∷ xs) (suc n) h = all-drop P xs n (λ i y le at. h (suc i) y (omega arith) at)

pub pairs-take : (n : ℕ) (xs : List Attribute) → pairs_of (take n xs) ≡ take n (pairs_of xs)
pairs-take zero [] = refl
pairs-take zero (x ∷ xs) = refl
pairs-take (suc n) [] = refl
pairs-take (suc n) (x ∷ xs) = ap (λ (ps : Pairs). (x.name, x.kind) ∷ ps) (pairs-take n xs)

-- ---- fields under two lists of pairs

-- Both have the same pair under the number of a field.
abbrev pub IsSame : Pairs → Pairs → Field → Type 0
IsSame p q f = slice_get p f.id ≡ slice_get q f.id

all_append : (P : Field → Type 0) (xs ys : List Field) → AllByRecursion P xs → AllByRecursion P ys → AllByRecursion P (xs ++ ys)
all_append P [] ys h k = k
all_append P (x ∷ xs) ys h k = (h.0, all_append P xs ys h.1 k)

pub same-below : (p q : Pairs) (under : ℕ → Option (List ℕ)) (n : ℕ) → ((id : ℕ) → id < n → slice_get p id ≡ slice_get q id) → AllByRecursion (IsSame p q) (fields_below under n)
same-below p q under zero same = tt
same-below p q under (suc id) same = all_append (IsSame p q) (fields_below under id) (field_if id (under id)) (same-below p q under id (λ i lt. same i (omega arith))) (one (under id))
  where
    one : (o : Option (List ℕ)) → AllByRecursion (IsSame p q) (field_if id o)
    one None = tt
    one (Some bytes) = (same id (omega arith), tt)

pub document-same : (p q : Pairs) (fs : List Field) → AllByRecursion (IsSame p q) fs → document_stored p fs ≡ document_stored q fs
document-same p q [] h = refl
document-same p q (f ∷ fs) h =
    ap (with_stored p f) (document-same p q fs h.1)
    ∙ ap (λ (o : Option (List ℕ × Kind)). option_map_or (λ (pair : List ℕ × Kind). with_field (document_stored q fs) pair.0 (value_in pair.1 f.bytes)) o (document_stored q fs)) h.0

held_same : (p q : Pairs) (d : Fields) (fs : List Field) → AllByRecursion (IsSame p q) fs → AllByRecursion (IsHeld p d) fs → AllByRecursion (IsHeld q d) fs
held_same p q d [] h k = tt
held_same p q d (f ∷ fs) h k = (subst (λ (o : Option (List ℕ × Kind)). MatchOption o ⊥ (IsStored d f.bytes)) h.0 k.0, held_same p q d fs h.1 k.1)

pub kept-same : (p q : Pairs) (fs : List Field) → AllByRecursion (IsSame p q) fs → IsKept p fs → IsKept q fs
kept-same p q fs h k =
    subst (λ (d : Fields). All (IsHeld q d) fs) (document-same p q fs h)
    (All-from_recursion (IsHeld q (document_stored p fs)) fs (held_same p q (document_stored p fs) fs h (recursion_from_All (IsHeld p (document_stored p fs)) fs k)))

pub fields-none : (under : ℕ → Option (List ℕ)) (n : ℕ) → ((id : ℕ) → under id ≡ None) → fields_below under n ≡ []
fields-none under zero none = refl
fields-none under (suc id) none = let rest = fields-none under id none in λ i. rest i ++ field_if id (none id i)
