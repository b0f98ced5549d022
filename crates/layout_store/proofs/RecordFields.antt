-- The fields of a record that are made of the entries of a document.
use Rattle.std.proofs.Common.{◌≡◌, ℕ, suc, ◌+◌, ◌<◌, ◌≤◌, ◌==◌, eqb, Bool, true, false, cond, List, [], ◌∷◌, length, get_or, Option, Some, slice_get, Less, Equal, Greater, nat_cmp, nat_lt, is_lt, refl, sym, ap, subst, ◌∙◌, arith, true≢false}
use Rattle.std.specs.Prelude.{All}
use Rattle.std.specs.List.{AllByRecursion, AllZip, IsDistinct}
use Rattle.std.specs.List.Sorted.{IsPermutation}
use Rattle.std.specs.Option.{option_map_or}
use Rattle.std.specs.Ordering.{ordering_then}
use Rattle.std.proofs.lemmas.Bool.Decides.{nat_tests}
use Rattle.std.proofs.lemmas.List.Elements.{All-nil, All-cons, recursion_from_All}
use Rattle.std.proofs.lemmas.List.Sorted.{IsPermutation-map, All-permutation, length_permutation}
use Rattle.std.proofs.lemmas.List.{length-map}
use Rattle.std.proofs.lemmas.Map.Keys.{IsDistinct-head, IsDistinct-tail}
use Rattle.std.proofs.lemmas.Option.{same_Some}
use Rattle.doc_values.specs.Doc.{Fields, IsDocument}
use Rattle.doc_values.specs.Weight.{weight_of}
use Rattle.doc_values.specs.declared.kind.Kind.{Kind}
use Rattle.doc_values.specs.declared.value.Value.{Value}
use Rattle.attr_catalog.specs.Attribute.{Attribute}
use Rattle.reservoir_record.specs.declared.fields.Field.{Field}
use Rattle.reservoir_record.specs.Spelling.{Ascends, AreFields, numbers, values}
use Rattle.document_records.specs.StoredValue.{bytes_of}
use Rattle.document_records.specs.Laws.{KeepDocument, DocumentsAreKept}
use Rattle.document_records.specs.StoredDocument.{Pairs, pairs_of, document_stored, IsHeld, IsKept, IsFieldOf}
use Rattle.layout_store.specs.Numbering.{HaveEntries, field_of, fields_made}
use Rattle.layout_store.proofs.HeldNumbers.{held_below}

-- ---- each field of the document has its field in the record

pub zip : (pairs : Pairs) (d : Fields) (place : ℕ) (fs : Fields) (es : List (ℕ × ℕ)) → ((k : ℕ) (f : List ℕ × Value) → slice_get fs k ≡ Some f → slice_get d (place + k) ≡ Some f)
    → HaveEntries pairs place fs es → AllZip (IsFieldOf pairs) fs (fields_made d es)
zip pairs d place [] [] there h = tt
zip pairs d place [] (e ∷ es) there h = absurd h
zip pairs d place (f ∷ fs) [] there h = absurd h
zip pairs d place (f ∷ fs) (e ∷ es) there h =
    let here : e.1 ≡ place + 0 = omega (arith, h.1) in
    let found : slice_get d e.1 ≡ Some f = ap (slice_get d) here ∙ there 0 f refl in (
      (h.0, ap (λ (o : Option (List ℕ × Value)). option_map_or (λ (x : List ℕ × Value). bytes_of x.1) o []) found, h.2),
      zip pairs d (place + 1) fs es (λ k g at. let next : (place + 1) + k ≡ place + suc k = omega arith in ap (slice_get d) next ∙ there (suc k) g at) h.3,
    )

pub zip_all : (pairs : Pairs) (d : Fields) (es : List (ℕ × ℕ)) → HaveEntries pairs 0 d es → AllZip (IsFieldOf pairs) d (fields_made d es)
zip_all pairs d es h = zip pairs d 0 d es (λ k f at. let same : 0 + k ≡ k = omega arith in ap (slice_get d) same ∙ at) h

-- the numbers of sorted entries rise
rises : (d : Fields) (ss : List (ℕ × ℕ)) (least : ℕ) → ((k : ℕ) (z : ℕ × ℕ) → k + 1 < length ss → (get_or ss k z).0 ≤ (get_or ss (k + 1) z).0) → IsDistinct eqb (numbers (fields_made d ss))
    → AllByRecursion (λ x. x.id < 65536) (fields_made d ss) → ((s : ℕ × ℕ) → slice_get ss 0 ≡ Some s → least ≤ s.0) → Ascends least (fields_made d ss)
rises d [] least up apart small first = tt
rises d (s ∷ []) least up apart small first = (first s refl, small.0, tt)
rises d (s ∷ (t ∷ ss)) least up apart small first =
    let le : s.0 ≤ t.0 = up 0 s (omega arith) in
    let head = IsDistinct-head eqb s.0 (numbers (fields_made d (t ∷ ss))) apart in
    let ne : eqb s.0 t.0 ≡ false = head.0 in
    let lt : s.0 + 1 ≤ t.0 = grind (arith, nat_tests) in (
      first s refl,
      small.0,
      rises d (t ∷ ss) (s.0 + 1) (λ k z h. up_later k z h) (IsDistinct-tail eqb s.0 (numbers (fields_made d (t ∷ ss))) apart) small.1 (λ u e. let same : t ≡ u = same_Some t u e in subst (λ (v : ℕ × ℕ). s.0 + 1 ≤ v.0) same lt),
    )
  where
    up_later : (k : ℕ) (z : ℕ × ℕ) → k + 1 < length (t ∷ ss) → (get_or (t ∷ ss) k z).0 ≤ (get_or (t ∷ ss) (k + 1) z).0
    up_later k z h =
        let next : suc k + 1 ≡ suc (k + 1) = omega arith in
        subst (λ (n : ℕ). (get_or (t ∷ ss) k z).0 ≤ (get_or (s ∷ (t ∷ ss)) n z).0) next (up (suc k) z (omega arith))

-- ---- all of it, from the entries of a document

places_within : (pairs : Pairs) (place m : ℕ) (fs : Fields) (es : List (ℕ × ℕ)) → place + length fs ≤ m → HaveEntries pairs place fs es → All (λ (e : ℕ × ℕ). e.1 < m) es
places_within pairs place m [] [] l h = All-nil (λ (e : ℕ × ℕ). e.1 < m)
places_within pairs place m [] (e ∷ es) l h = absurd h
places_within pairs place m (f ∷ fs) [] l h = absurd h
places_within pairs place m (f ∷ fs) (e ∷ es) l h =
    All-cons (λ (x : ℕ × ℕ). x.1 < m) e es (omega (arith, h.1)) (places_within pairs (place + 1) m fs es (omega arith) h.3)

small_ids : (pairs : Pairs) (d : Fields) → length pairs ≤ 65536 → (xs : List Field) → AllByRecursion (IsHeld pairs d) xs → AllByRecursion (λ x. x.id < 65536) xs
small_ids pairs d few [] h = tt
small_ids pairs d few (x ∷ xs) h = let below = held_below pairs d x h.0 in (omega arith, small_ids pairs d few xs h.1)

entries_many : (pairs : Pairs) (place : ℕ) (fs : Fields) (es : List (ℕ × ℕ)) → HaveEntries pairs place fs es → length es ≡ length fs
entries_many pairs place [] [] h = refl
entries_many pairs place [] (e ∷ es) h = absurd h
entries_many pairs place (f ∷ fs) [] h = absurd h
entries_many pairs place (f ∷ fs) (e ∷ es) h = ap suc (entries_many pairs (place + 1) fs es h.3)

module _ (law : DocumentsAreKept) (pairs : Pairs) (few : length pairs ≤ 65536) (d : Fields) (s : IsDocument d) (light : weight_of d ≤ 16777216)
    (es ss : List (ℕ × ℕ)) (h : HaveEntries pairs 0 d es) (moved : IsPermutation es ss) where
  abbrev made : List Field
  made = fields_made d ss

  made_keep : KeepDocument pairs d made
  made_keep = law pairs d (fields_made d es) made s (zip_all pairs d es h) (IsPermutation-map (field_of d) es ss moved)

  pub made_stands : document_stored pairs made ≡ d
  made_stands = made_keep.stands

  pub made_kept : IsKept pairs made
  made_kept = made_keep.kept

  pub made_fit : length (values made) ≤ 16777216
  made_fit = omega (arith, made_keep.weighs)

  pub made_within : All (λ (e : ℕ × ℕ). e.1 < length d) ss
  made_within = All-permutation (λ (e : ℕ × ℕ). e.1 < length d) es ss moved (places_within pairs 0 (length d) d es (omega arith) h)

  pub made_fields : ((k : ℕ) (z : ℕ × ℕ) → k + 1 < length ss → (get_or ss k z).0 ≤ (get_or ss (k + 1) z).0) → AreFields made
  made_fields up = record {
    ascend = rises d ss 0 up made_keep.once (small_ids pairs (document_stored pairs made) few made (recursion_from_All (IsHeld pairs (document_stored pairs made)) made made_kept)) (λ e at. omega arith);
    fit = made_fit;
  }

  pub made_many : length made ≡ length d
  made_many = length-map ss (field_of d) ∙ length_permutation es ss moved ∙ entries_many pairs 0 d es h

le_by : (a b c d : ℕ) (t : Bool) → nat_lt a b ≡ t → is_lt (ordering_then (nat_cmp a b) (nat_cmp c d)) ≡ false → b ≤ a
le_by a b c d true e h = absurd (true≢false (sym (ap (λ (x : Bool). is_lt (ordering_then (cond x Less (cond (a == b) Equal Greater)) (nat_cmp c d))) e) ∙ h))
le_by a b c d false e h = grind (arith, nat_tests)

-- sorted pairs of numbers do not fall in their first
pub up_from_sorted : (ss : List (ℕ × ℕ)) → ((k : ℕ) (z : ℕ × ℕ) → 0 ≤ k → k + 1 < length ss → is_lt (ordering_then (nat_cmp (get_or ss (k + 1) z).0 (get_or ss k z).0) (nat_cmp (get_or ss (k + 1) z).1 (get_or ss k z).1)) ≡ false)
    → (k : ℕ) (z : ℕ × ℕ) → k + 1 < length ss → (get_or ss k z).0 ≤ (get_or ss (k + 1) z).0
up_from_sorted ss h k z lt =
    le_by (get_or ss (k + 1) z).0 (get_or ss k z).0 (get_or ss (k + 1) z).1 (get_or ss k z).1 (nat_lt (get_or ss (k + 1) z).0 (get_or ss k z).0) refl (h k z (omega arith) lt)

pub few_pairs : (attributes : List Attribute) → length attributes ≤ 65536 → length (pairs_of attributes) ≤ 65536
few_pairs attributes h =
    let same : length (pairs_of attributes) ≡ length attributes = length-map attributes (λ (a : Attribute). let pair : List ℕ × Kind = (a.name, a.kind) in pair) in
    omega arith
