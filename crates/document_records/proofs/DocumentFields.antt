-- The fields of a record that are made of the fields of a document, and the document that they stand for.
use Rattle.std.proofs.Common.{◌≡◌, ◌≢◌, ◌⊎◌, inl, inr, ℕ, zero, suc, ◌+◌, eqb, Bool, true, false, List, [], ◌∷◌, length, Option, Some, None, slice_get, Equal, nat_cmp, is_eq, refl, sym, ap, subst, ◌∙◌, arith, true≢false, length-append}
use Rattle.std.specs.Prelude.{All, MatchOption}
use Rattle.std.specs.List.{AllByRecursion, AllZip, Contains, IsDistinct, sum_by}
use Rattle.std.specs.List.Sorted.{IsPermutation}
use Rattle.std.specs.Option.{option_map_or}
use Rattle.std.specs.Cmp.Lexicographic.{slice_cmp}
use Rattle.std.proofs.lemmas.Bool.Decides.{nat_tests}
use Rattle.std.proofs.lemmas.Cmp.{nat_list_cmp_total, tied_itself}
use Rattle.std.proofs.lemmas.List.Elements.{All-nil, All-cons, All-weaker, recursion_from_All}
use Rattle.std.proofs.lemmas.List.Sorted.{IsPermutation-map, All-permutation, Contains-permutation, sum_by-IsPermutation}
use Rattle.std.proofs.lemmas.List.Sums.{sum_by-cons}
use Rattle.std.proofs.lemmas.Map.Keys.{IsDistinct-IsPermutation}
use Rattle.std.proofs.lemmas.Map.Text.{is_eq-slice_cmp}
use Rattle.std.proofs.lemmas.Slice.Eq.{bytes_eq-Decides}
use Rattle.std.proofs.lemmas.Option.{same_Some, none-some}
use Rattle.doc_values.specs.Doc.{Fields, value_at, with_field, without_field, IsDocument}
use Rattle.doc_values.specs.Laws.{PutsAlone, RemovesAlone, AreSameByNames, StaysDocument}
use Rattle.doc_values.specs.Value.{kind_of, IsStorable}
use Rattle.doc_values.specs.Weight.{value_weight, weight_of}
use Rattle.doc_values.specs.declared.kind.Kind.{Kind}
use Rattle.doc_values.specs.declared.value.Value.{Value}
use Rattle.doc_values.specs.declared.value.Value.TheVariants as value
use Rattle.reservoir_record.specs.declared.fields.Field.{Field}
use Rattle.reservoir_record.specs.Spelling.{numbers, values}
use Rattle.document_records.specs.StoredValue.{bytes_of, value_in, AreReadable}
use Rattle.document_records.specs.StoredDocument.{Pairs, with_stored, document_stored, IsStored, IsHeld, IsKept, IsFieldOf}
use Rattle.document_records.proofs.CatalogNumbers.{contains_head, contains_later}
use Rattle.document_records.proofs.StoredValues.{reads_back}
use Rattle.document_records.proofs.StoredFields.{same_or_not, stored_here, stored_other}

-- ---- weights

length-bytes_of : (v : Value) → length (bytes_of v) ≡ value_weight v
length-bytes_of (value.Bool b) = refl
length-bytes_of (value.Int n) = refl
length-bytes_of (value.Text s) = refl
length-bytes_of (value.Array s) = refl
length-bytes_of value.Object = refl

abbrev size : Field → ℕ
size x = length x.bytes

length-values : (xs : List Field) → length (values xs) ≡ sum_by size xs
length-values [] = refl
length-values (x ∷ xs) = length-append x.bytes (values xs) ∙ ap (λ (n : ℕ). length x.bytes + n) (length-values xs) ∙ sym (sum_by-cons size x xs)

weights : (pairs : Pairs) (fs : Fields) (xs : List Field) → AllZip (IsFieldOf pairs) fs xs → sum_by size xs ≡ weight_of fs
weights pairs [] [] h = refl
weights pairs [] (x ∷ xs) h = absurd h
weights pairs (f ∷ fs) [] h = absurd h
weights pairs (f ∷ fs) (x ∷ xs) h =
    let first : length x.bytes ≡ value_weight f.1 = ap length h.0.1 ∙ length-bytes_of f.1 in
    let rest : sum_by size xs ≡ weight_of fs = weights pairs fs xs h.1 in
    sum_by-cons size x xs ∙ ap (λ (n : ℕ). n + sum_by size xs) first ∙ ap (λ (n : ℕ). value_weight f.1 + n) rest ∙ sym (sum_by-cons (λ (g : List ℕ × Value). value_weight g.1) f fs)

-- ---- names

itself : (a : List ℕ) → slice_cmp nat_cmp a a ≡ Equal
itself = tied_itself nat_list_cmp_total

module _ (removes : RemovesAlone) where
  -- the name of a first field stands under no other
  gone : (f : List ℕ × Value) (fs : Fields) → IsDocument (f ∷ fs) → value_at f.0 fs ≡ None
  gone f fs s =
      let cut : without_field (f ∷ fs) f.0 ≡ fs = rw (itself f.0) refl in
      subst (λ (gs : Fields). value_at f.0 gs ≡ None) cut (removes (f ∷ fs) f.0 s).0

  absent_by : (name : List ℕ) (g : List ℕ × Value) (gs : Fields) (t : Bool) → is_eq (slice_cmp nat_cmp name g.0) ≡ t → value_at name (g ∷ gs) ≡ None → (name ≢ g.0) × (value_at name gs ≡ None)
  absent_by name g gs true e h = absurd (let here : Some g.1 ≡ None = rw e at h in cc)
  absent_by name g gs false e h =
      ((λ same. true≢false (sym (ap is_eq (itself g.0)) ∙ ap (λ (n : List ℕ). is_eq (slice_cmp nat_cmp n g.0)) (sym same) ∙ e)), rw e at h)

  absent : (name : List ℕ) (g : List ℕ × Value) (gs : Fields) → value_at name (g ∷ gs) ≡ None → (name ≢ g.0) × (value_at name gs ≡ None)
  absent name g gs h = absent_by name g gs (is_eq (slice_cmp nat_cmp name g.0)) refl h

  first_found : (f : List ℕ × Value) (fs : Fields) → value_at f.0 (f ∷ fs) ≡ Some f.1
  first_found f fs = rw (itself f.0) refl

  -- ---- numbers

  different : (pairs : Pairs) (a b : ℕ) (p q : List ℕ × Kind) → slice_get pairs a ≡ Some p → slice_get pairs b ≡ Some q → p.0 ≢ q.0 → eqb a b ≡ false
  different pairs a b p q at there ne = by (eqb a b) refl
    where
      by : (t : Bool) → eqb a b ≡ t → eqb a b ≡ false
      by true e =
          let same : a ≡ b = grind (arith, nat_tests) in
          absurd (ne (ap (λ (x : List ℕ × Kind). x.0) (same_Some p q (sym at ∙ ap (slice_get pairs) same ∙ there))))
      by false e = e

  later : (pairs : Pairs) (id : ℕ) (p : List ℕ × Kind) → slice_get pairs id ≡ Some p → (fs : Fields) (xs : List Field) → AllZip (IsFieldOf pairs) fs xs → value_at p.0 fs ≡ None → AllByRecursion (λ y. eqb id y ≡ false) (numbers xs)
  later pairs id p at [] [] h none = tt
  later pairs id p at [] (x ∷ xs) h none = absurd h
  later pairs id p at (f ∷ fs) [] h none = absurd h
  later pairs id p at (f ∷ fs) (x ∷ xs) h none =
      let a = absent p.0 f fs none in
      (different pairs id x.id p (f.0, kind_of f.1) at h.0.0 a.0, later pairs id p at fs xs h.1 a.1)

  distinct : (pairs : Pairs) (fs : Fields) (xs : List Field) → IsDocument fs → AllZip (IsFieldOf pairs) fs xs → IsDistinct eqb (numbers xs)
  unfolding IsDistinct
  distinct pairs [] [] s h = tt
  distinct pairs [] (x ∷ xs) s h = absurd h
  distinct pairs (f ∷ fs) [] s h = absurd h
  distinct pairs (f ∷ fs) (x ∷ xs) s h = (later pairs x.id (f.0, kind_of f.1) h.0.0 fs xs h.1 (gone f fs s), distinct pairs fs xs s.2 h.1)

-- ---- the document that the fields stand for

-- A document holds the field, whose value it may hold.
abbrev Holds : Pairs → Fields → Field → Type 0
Holds pairs d x = (f : List ℕ × Value) × IsFieldOf pairs f x × (value_at f.0 d ≡ Some f.1) × IsStorable f.1

same_by_cmp : (a b : List ℕ) → is_eq (slice_cmp nat_cmp a b) ≡ true → a ≡ b
same_by_cmp a b h = (bytes_eq-Decides a b).0 (sym (is_eq-slice_cmp a b) ∙ h)

skip_by : (name : List ℕ) (v : Value) (f : List ℕ × Value) (fs : Fields) (t : Bool) → is_eq (slice_cmp nat_cmp name f.0) ≡ t → name ≢ f.0 → value_at name fs ≡ Some v → value_at name (f ∷ fs) ≡ Some v
skip_by name v f fs true q ne e = absurd (ne (same_by_cmp name f.0 q))
skip_by name v f fs false q ne e = rw q e

module _ (removes : RemovesAlone) where
  behind_by : (f : List ℕ × Value) (fs : Fields) → IsDocument (f ∷ fs) → (name : List ℕ) (v : Value) → (name ≡ f.0) ⊎ (name ≢ f.0) → value_at name fs ≡ Some v → value_at name (f ∷ fs) ≡ Some v
  behind_by f fs s name v (inl same) e = absurd (none-some v (sym (gone removes f fs s) ∙ ap (λ (n : List ℕ). value_at n fs) (sym same) ∙ e))
  behind_by f fs s name v (inr ne) e = skip_by name v f fs (is_eq (slice_cmp nat_cmp name f.0)) refl ne e

  behind : (f : List ℕ × Value) (fs : Fields) → IsDocument (f ∷ fs) → (name : List ℕ) (v : Value) → value_at name fs ≡ Some v → value_at name (f ∷ fs) ≡ Some v
  behind f fs s name v e = behind_by f fs s name v (same_or_not name f.0) e

  held_all : (pairs : Pairs) (fs : Fields) (xs : List Field) → IsDocument fs → AllZip (IsFieldOf pairs) fs xs → All (Holds pairs fs) xs
  held_all pairs [] [] s h = All-nil (Holds pairs [])
  held_all pairs [] (x ∷ xs) s h = absurd h
  held_all pairs (f ∷ fs) [] s h = absurd h
  held_all pairs (f ∷ fs) (x ∷ xs) s h =
      All-cons (Holds pairs (f ∷ fs)) x xs (f, h.0, first_found removes f fs, s.1)
      (All-weaker (Holds pairs fs) (Holds pairs (f ∷ fs)) (λ (y : Field) (w : Holds pairs fs y). (w.0, w.1, behind f fs s w.0.0 w.0.1 w.2, w.3)) xs (held_all pairs fs xs s.2 h.1))

-- A field of a record is that of a name with its value.
pub record Has (pairs : Pairs) (name : List ℕ) (xs : List Field) : Type 0 where
  pub field : Field
  pub there : Contains xs field
  pub of : Kind
  pub numbered : slice_get pairs field.id ≡ Some (name, of)

has_by : (pairs : Pairs) (name : List ℕ) (v : Value) (f : List ℕ × Value) (fs : Fields) (x : Field) (xs : List Field) (t : Bool) → is_eq (slice_cmp nat_cmp name f.0) ≡ t → IsFieldOf pairs f x → (value_at name fs ≡ Some v → Has pairs name xs)
    → value_at name (f ∷ fs) ≡ Some v → Has pairs name (x ∷ xs)
has_by pairs name v f fs x xs true q h later e =
    record { field = x; there = contains_head x xs; of = kind_of f.1; numbered = h.0 ∙ ap (λ (n : List ℕ). Some (n, kind_of f.1)) (sym (same_by_cmp name f.0 q)) }
has_by pairs name v f fs x xs false q h later e =
    let rest = later (rw q at e) in
    record { field = rest.field; there = contains_later x rest.field xs rest.there; of = rest.of; numbered = rest.numbered }

has_all : (pairs : Pairs) (name : List ℕ) (v : Value) (fs : Fields) (xs : List Field) → AllZip (IsFieldOf pairs) fs xs → value_at name fs ≡ Some v → Has pairs name xs
has_all pairs name v [] [] h e = absurd (cc)
has_all pairs name v [] (x ∷ xs) h e = absurd h
has_all pairs name v (f ∷ fs) [] h e = absurd h
has_all pairs name v (f ∷ fs) (x ∷ xs) h e = has_by pairs name v f fs x xs (is_eq (slice_cmp nat_cmp name f.0)) refl h.0 (has_all pairs name v fs xs h.1) e

-- what a held field stands for
value_held : (pairs : Pairs) (d : Fields) (x : Field) (w : Holds pairs d x) → value_in (kind_of w.0.1) x.bytes ≡ w.0.1
value_held pairs d x w = ap (value_in (kind_of w.0.1)) w.1.1 ∙ reads_back w.0.1 w.3

flips : (x y : ℕ) → eqb x y ≡ eqb y x
flips x y = grind (arith, nat_tests)

module _ (puts : PutsAlone) (kept : StaysDocument) (pairs : Pairs) where
  -- the value that a held field puts
  stored_is : (d rest : Fields) (x : Field) (w : Holds pairs d x) (name : List ℕ) → name ≡ w.0.0 → value_at name (with_stored pairs x rest) ≡ Some w.0.1
  stored_is d rest x w name same = stored_here puts pairs x rest (w.0.0, kind_of w.0.1) name w.1.0 same ∙ ap (λ (v : Value). Some v) (value_held pairs d x w)

  within_by : (d : Fields) (name : List ℕ) (v : Value) (x : Field) (xs : List Field) (w : Holds pairs d x) → (name ≡ w.0.0) ⊎ (name ≢ w.0.0) → (value_at name (document_stored pairs xs) ≡ Some v → value_at name d ≡ Some v)
      → value_at name (document_stored pairs (x ∷ xs)) ≡ Some v → value_at name d ≡ Some v
  within_by d name v x xs w (inl same) later e = ap (λ (n : List ℕ). value_at n d) same ∙ w.2 ∙ sym (stored_is d (document_stored pairs xs) x w name same) ∙ e
  within_by d name v x xs w (inr ne) later e = later (sym (stored_other puts pairs x (document_stored pairs xs) (w.0.0, kind_of w.0.1) name w.1.0 ne) ∙ e)

  within : (d : Fields) (name : List ℕ) (v : Value) (xs : List Field) → AllByRecursion (Holds pairs d) xs → value_at name (document_stored pairs xs) ≡ Some v → value_at name d ≡ Some v
  within d name v [] h e = absurd (cc)
  within d name v (x ∷ xs) h e = within_by d name v x xs h.0 (same_or_not name h.0.0.0) (within d name v xs h.1) e

  -- Some value stands there.
  pub record IsThere (name : List ℕ) (d : Fields) : Type 0 where
    pub value : Value
    pub found : value_at name d ≡ Some value

  there_by : (d : Fields) (name : List ℕ) (x : Field) (xs : List Field) (w : Holds pairs d x) → (name ≡ w.0.0) ⊎ (name ≢ w.0.0) → (name ≢ w.0.0 → IsThere name (document_stored pairs xs)) → IsThere name (document_stored pairs (x ∷ xs))
  there_by d name x xs w (inl same) later = record { value = w.0.1; found = stored_is d (document_stored pairs xs) x w name same }
  there_by d name x xs w (inr ne) later =
      let rest = later ne in
      record { value = rest.value; found = stored_other puts pairs x (document_stored pairs xs) (w.0.0, kind_of w.0.1) name w.1.0 ne ∙ rest.found }

  there : (d : Fields) (name : List ℕ) (of : Kind) (xs : List Field) → AllByRecursion (Holds pairs d) xs → (y : Field) → slice_get pairs y.id ≡ Some (name, of) → Contains xs y → IsThere name (document_stored pairs xs)
  there d name of [] h y at c = absurd (omega (arith, c.1))
  there d name of (x ∷ xs) h y at (zero, lt, is) =
      let same : x.id ≡ y.id = ap (λ (z : Field). z.id) is in
      let named : name ≡ h.0.0.0 = ap (λ (p : List ℕ × Kind). p.0) (same_Some (name, of) (h.0.0.0, kind_of h.0.0.1) (sym at ∙ ap (slice_get pairs) (sym same) ∙ h.0.1.0)) in
      there_by d name x xs h.0 (inl named) (λ ne. absurd (ne named))
  there d name of (x ∷ xs) h y at (suc k, lt, is) = there_by d name x xs h.0 (same_or_not name h.0.0.0) (λ ne. there d name of xs h.1 y at (k, omega arith, is))

  document_by : (d rest : Fields) (x : Field) (w : Holds pairs d x) → IsDocument rest → IsDocument (with_stored pairs x rest)
  document_by d rest x w s =
      subst (λ (o : Option (List ℕ × Kind)). IsDocument (option_map_or (λ (p : List ℕ × Kind). with_field rest p.0 (value_in p.1 x.bytes)) o rest)) (sym w.1.0)
      ((kept rest w.0.0 s).0 (value_in (kind_of w.0.1) x.bytes) (subst IsStorable (sym (value_held pairs d x w)) w.3))

  is_document : (d : Fields) (xs : List Field) → AllByRecursion (Holds pairs d) xs → IsDocument (document_stored pairs xs)
  is_document d [] h = tt
  is_document d (x ∷ xs) h = document_by d (document_stored pairs xs) x h.0 (is_document d xs h.1)

  agree_by : (d e : Fields) (name : List ℕ) (o p : Option Value) → value_at name e ≡ o → value_at name d ≡ p → ((v : Value) → value_at name e ≡ Some v → value_at name d ≡ Some v) → ((v : Value) → value_at name d ≡ Some v → IsThere name e)
      → value_at name e ≡ value_at name d
  agree_by d e name (Some v) p a b sound complete = a ∙ sym (sound v a)
  agree_by d e name None None a b sound complete = a ∙ sym b
  agree_by d e name None (Some w) a b sound complete = absurd (let t = complete w b in none-some t.value (sym a ∙ t.found))

  module _ (removes : RemovesAlone) (same : AreSameByNames) (d : Fields) (s : IsDocument d) (xs ys : List Field) (h : AllZip (IsFieldOf pairs) d xs) (moved : IsPermutation xs ys) where
    all_held : All (Holds pairs d) ys
    all_held = All-permutation (Holds pairs d) xs ys moved (held_all removes pairs d xs s h)

    each_held : AllByRecursion (Holds pairs d) ys
    each_held = recursion_from_All (Holds pairs d) ys all_held

    found_there : (name : List ℕ) (v : Value) → value_at name d ≡ Some v → IsThere name (document_stored pairs ys)
    found_there name v e =
        let x = has_all pairs name v d xs h e in
        there d name x.of ys each_held x.field x.numbered (Contains-permutation xs ys x.field moved x.there)

    -- the fields of a document, in whichever order, stand for it
    pub stands_again : document_stored pairs ys ≡ d
    stands_again =
        same (document_stored pairs ys) d (is_document d ys each_held) s
        (λ name. agree_by d (document_stored pairs ys) name (value_at name (document_stored pairs ys)) (value_at name d) refl refl (λ v e. within d name v ys each_held e) (found_there name))

    held_by : (x : Field) → Holds pairs d x → IsHeld pairs d x
    held_by x w =
        let stands : IsStored d x.bytes (w.0.0, kind_of w.0.1) = record {
          readable = subst (AreReadable (kind_of w.0.1)) (sym w.1.1) w.1.2;
          stands = w.2 ∙ ap (λ (v : Value). Some v) (sym (value_held pairs d x w));
          written = w.1.1 ∙ ap bytes_of (sym (value_held pairs d x w));
        } in
        subst (λ (o : Option (List ℕ × Kind)). MatchOption o ⊥ (IsStored d x.bytes)) (sym w.1.0) stands

    pub is_kept : IsKept pairs ys
    is_kept = subst (λ (e : Fields). All (IsHeld pairs e) ys) (sym stands_again) (All-weaker (Holds pairs d) (IsHeld pairs d) held_by ys all_held)

    -- each number stands once
    pub once : IsDistinct eqb (numbers ys)
    once = IsDistinct-IsPermutation eqb flips (numbers xs) (numbers ys) (IsPermutation-map (λ (x : Field). x.id) xs ys moved) (distinct removes pairs d xs s h)

    pub fits : length (values ys) ≡ weight_of d
    fits = length-values ys ∙ sum_by-IsPermutation size xs ys moved ∙ weights pairs d xs h
