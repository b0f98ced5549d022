-- A name among the ascending fields of a document: what is found at its place, and what an edit there does.
use Rattle.std.proofs.Common.{◌≡◌, ℕ, zero, suc, ◌-◌, ◌<◌, ◌≤◌, List, [], ◌∷◌, length, get_or, set, Some, None, cond, true, Result, Ok, Err, MatchResult, Ordering, Less, Equal, Greater, is_eq, is_lt, nat_cmp, refl, sym, ap, ◌∙◌, arith}
use Rattle.std.specs.Ordering.{match_ordering, ordering_index, ordering_reverse}
use Rattle.std.specs.Cmp.Lexicographic.{slice_cmp}
use Rattle.std.specs.List.{insert, remove, HoldsAt}
use Rattle.std.specs.List.Sorted.{IsNonDecreasingBy, IsPartitionPoint, IsSearchInRange, IsBinarySearchResult}
use Rattle.std.proofs.lemmas.List.{get_or_default}
use Rattle.std.proofs.lemmas.Cmp.{nat_list_cmp_total, tied_back, alike_right}
use Rattle.std.proofs.lemmas.Map.Text.{is_eq-slice_cmp}
use Rattle.std.proofs.lemmas.Slice.Eq.{bytes_eq-Decides}
use Rattle.doc_values.specs.declared.value.Value.{Value}
use Rattle.doc_values.specs.Value.{IsStorable}
use Rattle.doc_values.specs.Doc.{Fields, value_at, with_field, without_field, IsBefore, IsDocument}
use Rattle.doc_values.specs.Place.{StandsAt, FitsAt}

-- names that compare as equal are one
pub same_name : (a b : List ℕ) → slice_cmp nat_cmp a b ≡ Equal → a ≡ b
same_name a b h = (bytes_eq-Decides a b).0 (sym (is_eq-slice_cmp a b) ∙ ap is_eq h)

turned : (a b : List ℕ) → slice_cmp nat_cmp a b ≡ Less → slice_cmp nat_cmp b a ≡ Greater
turned a b h = nat_list_cmp_total.antisymm b a ∙ ap ordering_reverse h

pub turned_back : (a b : List ℕ) → slice_cmp nat_cmp a b ≡ Greater → slice_cmp nat_cmp b a ≡ Less
turned_back a b h = nat_list_cmp_total.antisymm b a ∙ ap ordering_reverse h

-- a name before the first of some fields in order is before the first of any rest
before_rest : (name : List ℕ) (f : List ℕ × Value) (fs : Fields) → slice_cmp nat_cmp name f.0 ≡ Less → IsBefore f.0 fs → IsBefore name fs
before_rest name f [] h k = tt
before_rest name f (g ∷ fs) h k = nat_list_cmp_total.trans name f.0 g.0 h k

-- ---- where a search ends

-- the first name of a document is before all others
first_is_least : (f : List ℕ × Value) (fs : Fields) → IsBefore f.0 fs → IsDocument fs → (i : ℕ) (d : List ℕ × Value) → i < length fs → slice_cmp nat_cmp f.0 (get_or fs i d).0 ≡ Less
first_is_least f [] b s i d lt = absurd (omega arith)
first_is_least f (g ∷ fs) b s zero d lt = b
first_is_least f (g ∷ fs) b s (suc i) d lt = first_is_least f fs (before_rest f.0 g fs b s.0) s.2 i d (omega arith)

-- a later name compares no lower with a third
rises_by : (a b c : List ℕ) → slice_cmp nat_cmp a b ≡ Less → (o p : Ordering) → slice_cmp nat_cmp a c ≡ o → slice_cmp nat_cmp b c ≡ p → ordering_index o ≤ ordering_index p
rises_by a b c h Less p x y = omega arith
rises_by a b c h Equal Less x y = absurd (let less = nat_list_cmp_total.trans a b c h y in cc)
rises_by a b c h Equal Equal x y = omega arith
rises_by a b c h Equal Greater x y = omega arith
rises_by a b c h Greater Less x y = absurd (let less = nat_list_cmp_total.trans a b c h y in cc)
rises_by a b c h Greater Equal x y = absurd (let back = nat_list_cmp_total.congr b c a y in let down = turned a b h in let up = turned_back a c x in cc)
rises_by a b c h Greater Greater x y = omega arith

index_of_less : (o : Ordering) → ordering_index o ≤ 0 → o ≡ Less
index_of_less Less h = refl
index_of_less Equal h = absurd (omega arith)
index_of_less Greater h = absurd (omega arith)

-- the names rise past any name
pub names_rise : (name : List ℕ) (fs : Fields) → IsDocument fs → IsNonDecreasingBy (λ f. ordering_index (slice_cmp nat_cmp f.0 name)) fs
names_rise name [] s i j d le lt = absurd (omega arith)
names_rise name (f ∷ fs) s zero zero d le lt = omega arith
names_rise name (f ∷ fs) s zero (suc j) d le lt = rises_by f.0 (get_or fs j d).0 name (first_is_least f fs s.0 s.2 j d (omega arith)) _ _ refl refl
names_rise name (f ∷ fs) s (suc i) zero d le lt = absurd (omega arith)
names_rise name (f ∷ fs) s (suc i) (suc j) d le lt = names_rise name fs s.2 i j d (omega arith) (omega arith)

pub StandsAt-found : (name : List ℕ) (fs : Fields) (i : ℕ) → IsDocument fs → i < length fs → HoldsAt (λ f. slice_cmp nat_cmp f.0 name ≡ Equal) fs i → StandsAt name fs i
StandsAt-found name [] i s lt h = absurd (omega arith)
StandsAt-found name (f ∷ fs) zero s lt h = tied_back nat_list_cmp_total f.0 name (h f)
StandsAt-found name (f ∷ fs) (suc i) s lt h =
    (turned f.0 name (sym (alike_right nat_list_cmp_total (get_or fs i f).0 name f.0 (h f)) ∙ first_is_least f fs s.0 s.2 i f (omega arith)), StandsAt-found name fs i s.2 (omega arith) h)

pub FitsAt-parted : (name : List ℕ) (fs : Fields) (i : ℕ) → i ≤ length fs → IsPartitionPoint (λ f. slice_cmp nat_cmp f.0 name ≡ Less) (λ f. slice_cmp nat_cmp f.0 name ≡ Greater) fs i → FitsAt name fs i
FitsAt-parted name [] zero le h = tt
FitsAt-parted name (f ∷ fs) zero le h = turned_back f.0 name (h.1 0 f (omega arith) (omega arith))
FitsAt-parted name [] (suc i) le h = absurd (omega arith)
FitsAt-parted name (f ∷ fs) (suc i) le h =
    (turned f.0 name (h.0 0 f (omega arith) (omega arith)), FitsAt-parted name fs i (omega arith) (λ k d _ lt. h.0 (suc k) d (omega arith) (omega arith), λ k d le lt. h.1 (suc k) d (omega arith) (omega arith)))

less_from_test : (o : Ordering) → true ≡ is_lt o → o ≡ Less
less_from_test Less h = refl
less_from_test Equal h = absurd (cc)
less_from_test Greater h = absurd (cc)

-- a name after the last of a document comes at its end
pub FitsAt-last : (name : List ℕ) (fs : Fields) (last : List ℕ × Value) → IsDocument fs → 0 < length fs → last ≡ get_or fs (length fs - 1) last → true ≡ is_lt (slice_cmp nat_cmp last.0 name) → FitsAt name fs (length fs)
FitsAt-last name fs last s some e h =
    FitsAt-parted name fs (length fs) (omega arith)
    (λ k d _ below. index_of_less _ (let rise = names_rise name fs s k (length fs - 1) d (omega arith) (omega arith) in omega (arith, ap ordering_index (last_is d))), λ k d le past. absurd (omega arith))
  where
    last_is : (d : List ℕ × Value) → slice_cmp nat_cmp (get_or fs (length fs - 1) d).0 name ≡ Less
    last_is d = rw (get_or_default fs (length fs - 1) d last (omega arith), ← e) (less_from_test _ h)

-- ---- what is found there

module _ (name : List ℕ) where
  pub value-stands : (fs : Fields) (i : ℕ) (d : List ℕ × Value) → StandsAt name fs i → value_at name fs ≡ Some (get_or fs i d).1
  value-stands [] i d h = absurd h
  value-stands (f ∷ fs) zero d h = rw h refl
  value-stands (f ∷ fs) (suc i) d h = rw h.0 (value-stands fs i d h.1)

  pub value-before : (fs : Fields) → IsDocument fs → IsBefore name fs → value_at name fs ≡ None
  value-before [] s h = refl
  value-before (f ∷ fs) s h = rw h (value-before fs s.2 (before_rest name f fs h s.0))

  pub value-fits : (fs : Fields) (i : ℕ) → IsDocument fs → FitsAt name fs i → value_at name fs ≡ None
  value-fits fs zero s h = value-before fs s h
  value-fits [] (suc i) s h = absurd h
  value-fits (f ∷ fs) (suc i) s h = rw h.0 (value-fits fs i s.2 h.1)

  -- ---- what an edit there does

  pub with_field-stands : (fs : Fields) (i : ℕ) (d : List ℕ × Value) (v : Value) → StandsAt name fs i → set fs i ((get_or fs i d).0, v) ≡ with_field fs name v
  with_field-stands [] i d v h = absurd h
  with_field-stands (f ∷ fs) zero d v h = rw h refl
  with_field-stands (f ∷ fs) (suc i) d v h = rw h.0 (ap (λ l. f ∷ l) (with_field-stands fs i d v h.1))

  pub with_field-fits : (fs : Fields) (i : ℕ) (v : Value) → FitsAt name fs i → insert fs i (name, v) ≡ with_field fs name v
  with_field-fits [] zero v h = refl
  with_field-fits (f ∷ fs) zero v h = rw h refl
  with_field-fits [] (suc i) v h = absurd h
  with_field-fits (f ∷ fs) (suc i) v h = rw h.0 (ap (λ l. f ∷ l) (with_field-fits fs i v h.1))

  pub without_field-stands : (fs : Fields) (i : ℕ) → StandsAt name fs i → remove fs i ≡ without_field fs name
  without_field-stands [] i h = absurd h
  without_field-stands (f ∷ fs) zero h = rw h refl
  without_field-stands (f ∷ fs) (suc i) h = rw h.0 (ap (λ l. f ∷ l) (without_field-stands fs i h.1))

  absent_by : (f : List ℕ × Value) (fs : Fields) (o : Ordering) → cond (is_eq o) (Some f.1) (value_at name fs) ≡ None → (value_at name fs ≡ None → fs ≡ without_field fs name) → f ∷ fs ≡ cond (is_eq o) fs (f ∷ without_field fs name)
  absent_by f fs Less h later = ap (λ l. f ∷ l) (later h)
  absent_by f fs Equal h later = absurd (cc)
  absent_by f fs Greater h later = ap (λ l. f ∷ l) (later h)

  pub without_field-absent : (fs : Fields) → value_at name fs ≡ None → fs ≡ without_field fs name
  without_field-absent [] h = refl
  without_field-absent (f ∷ fs) h = absent_by f fs (slice_cmp nat_cmp name f.0) h (without_field-absent fs)

-- ---- what an edit keeps

before_put : (a name : List ℕ) (g : List ℕ × Value) (v : Value) (rest : Fields) (o : Ordering) → slice_cmp nat_cmp a name ≡ Less → slice_cmp nat_cmp a g.0 ≡ Less → IsBefore a (match_ordering o ((name, v) ∷ g ∷ rest) ((g.0, v) ∷ rest) (g ∷ with_field rest name v))
before_put a name g v rest Less h b = h
before_put a name g v rest Equal h b = b
before_put a name g v rest Greater h b = b

IsBefore-with_field : (a name : List ℕ) (v : Value) (fs : Fields) → slice_cmp nat_cmp a name ≡ Less → IsBefore a fs → IsBefore a (with_field fs name v)
IsBefore-with_field a name v [] h b = h
IsBefore-with_field a name v (g ∷ fs) h b = before_put a name g v fs (slice_cmp nat_cmp name g.0) h b

put_by : (f : List ℕ × Value) (fs : Fields) (name : List ℕ) (v : Value) (o : Ordering) → slice_cmp nat_cmp name f.0 ≡ o → IsDocument (f ∷ fs) → IsStorable v → IsDocument (with_field fs name v)
    → IsDocument (match_ordering o ((name, v) ∷ f ∷ fs) ((f.0, v) ∷ fs) (f ∷ with_field fs name v))
put_by f fs name v Less h s k later = (h, k, s)
put_by f fs name v Equal h s k later = (s.0, k, s.2)
put_by f fs name v Greater h s k later = (IsBefore-with_field f.0 name v fs (turned_back name f.0 h) s.0, s.1, later)

pub IsDocument-with_field : (fs : Fields) (name : List ℕ) (v : Value) → IsDocument fs → IsStorable v → IsDocument (with_field fs name v)
IsDocument-with_field [] name v s k = (tt, k, tt)
IsDocument-with_field (f ∷ fs) name v s k = put_by f fs name v _ refl s k (IsDocument-with_field fs name v s.2 k)

before_cut : (a name : List ℕ) (g : List ℕ × Value) (rest : Fields) (o : Ordering) → slice_cmp nat_cmp a g.0 ≡ Less → IsBefore g.0 rest → IsBefore a (cond (is_eq o) rest (g ∷ without_field rest name))
before_cut a name g rest Less b s = b
before_cut a name g rest Equal b s = before_rest a g rest b s
before_cut a name g rest Greater b s = b

IsBefore-without_field : (a name : List ℕ) (fs : Fields) → IsBefore a fs → IsDocument fs → IsBefore a (without_field fs name)
IsBefore-without_field a name [] b s = tt
IsBefore-without_field a name (g ∷ fs) b s = before_cut a name g fs (slice_cmp nat_cmp name g.0) b s.0

cut_by : (f : List ℕ × Value) (fs : Fields) (name : List ℕ) (o : Ordering) → IsDocument (f ∷ fs) → IsDocument (without_field fs name) → IsDocument (cond (is_eq o) fs (f ∷ without_field fs name))
cut_by f fs name Less s later = (IsBefore-without_field f.0 name fs s.0 s.2, s.1, later)
cut_by f fs name Equal s later = s.2
cut_by f fs name Greater s later = (IsBefore-without_field f.0 name fs s.0 s.2, s.1, later)

pub IsDocument-without_field : (fs : Fields) (name : List ℕ) → IsDocument fs → IsDocument (without_field fs name)
IsDocument-without_field [] name s = tt
IsDocument-without_field (f ∷ fs) name s = cut_by f fs name (slice_cmp nat_cmp name f.0) s (IsDocument-without_field fs name s.2)

module _ (fs : Fields) (i : ℕ) (name : List ℕ) (s : IsDocument fs) where
  -- a value written over the one under the name
  pub with_field-set : (x : List ℕ × Value) (v : Value) → StandsAt name fs i → x ≡ get_or fs i x → set fs i (x.0, v) ≡ with_field fs name v
  with_field-set x v h e = ap (λ y. set fs i (y.0, v)) e ∙ with_field-stands name fs i x v h

  pub IsDocument-set : (x : List ℕ × Value) (v : Value) → StandsAt name fs i → x ≡ get_or fs i x → IsStorable v → IsDocument (set fs i (x.0, v))
  IsDocument-set x v h e k = rw (with_field-set x v h e) (IsDocument-with_field fs name v s k)

  -- a field put in
  pub IsDocument-insert : (v : Value) → FitsAt name fs i → IsStorable v → IsDocument (insert fs i (name, v))
  IsDocument-insert v h k = rw (with_field-fits name fs i v h) (IsDocument-with_field fs name v s k)

  -- a field taken out
  pub IsDocument-remove : StandsAt name fs i → IsDocument (remove fs i)
  IsDocument-remove h = rw (without_field-stands name fs i h) (IsDocument-without_field fs name s)

-- ---- what a search answers

pub searched : (name : List ℕ) (fs : Fields) → IsDocument fs → (r : Result ℕ ℕ) → IsSearchInRange r (length fs) → IsBinarySearchResult (λ f. slice_cmp nat_cmp f.0 name) fs r → MatchResult r (StandsAt name fs) (FitsAt name fs)
searched name fs s (Ok i) within at = StandsAt-found name fs i s within at
searched name fs s (Err i) within parted = FitsAt-parted name fs i within (parted (names_rise name fs s))
