-- A document is a map: what an edit does at each name, and that the names tell all.
use Rattle.std.proofs.Common.{◌≡◌, ◌≢◌, ℕ, List, [], ◌∷◌, Bool, true, false, cond, Some, None, Ordering, Less, Equal, Greater, is_eq, nat_cmp, refl, sym, ap, ◌∙◌, subst}
use Rattle.std.specs.Ordering.{match_ordering}
use Rattle.std.specs.Cmp.Lexicographic.{slice_cmp}
use Rattle.std.proofs.lemmas.Cmp.{nat_list_cmp_total, tied_itself}
use Rattle.std.proofs.lemmas.Map.Text.{is_eq-slice_cmp}
use Rattle.std.proofs.lemmas.Slice.Eq.{bytes_eq-Decides}
use Rattle.doc_values.specs.declared.value.Value.{Value}
use Rattle.doc_values.specs.Value.{IsStorable}
use Rattle.doc_values.specs.Doc.{Fields, value_at, with_field, without_field, IsDocument}
use Rattle.doc_values.specs.Laws.{PutsAlone, RemovesAlone, AreSameByNames, StaysDocument}
use Rattle.doc_values.proofs.Places.{same_name, value-before, turned_back, IsDocument-with_field, IsDocument-without_field}

itself : (a : List ℕ) → slice_cmp nat_cmp a a ≡ Equal
itself = tied_itself nat_list_cmp_total

is_false : (b : Bool) → (b ≡ true → ⊥) → b ≡ false
is_false true h = absurd (h refl)
is_false false h = refl

-- other names do not compare as equal
apart : (a b : List ℕ) → a ≢ b → is_eq (slice_cmp nat_cmp a b) ≡ false
apart a b h = is_false _ (λ e. h ((bytes_eq-Decides a b).0 (sym (is_eq-slice_cmp a b) ∙ e)))

module _ (name : List ℕ) (v : Value) where
  put_found : (f : List ℕ × Value) (fs : Fields) (o : Ordering) → slice_cmp nat_cmp name f.0 ≡ o → value_at name (with_field fs name v) ≡ Some v
      → value_at name (match_ordering o ((name, v) ∷ f ∷ fs) ((f.0, v) ∷ fs) (f ∷ with_field fs name v)) ≡ Some v
  put_found f fs Less h later = rw (itself name) refl
  put_found f fs Equal h later = rw h refl
  put_found f fs Greater h later = rw h later

  value-with_field : (fs : Fields) → value_at name (with_field fs name v) ≡ Some v
  value-with_field [] = rw (itself name) refl
  value-with_field (f ∷ fs) = put_found f fs _ refl (value-with_field fs)

  put_passed : (other : List ℕ) → other ≢ name → (f : List ℕ × Value) (fs : Fields) (o : Ordering) → slice_cmp nat_cmp name f.0 ≡ o → value_at other (with_field fs name v) ≡ value_at other fs
      → value_at other (match_ordering o ((name, v) ∷ f ∷ fs) ((f.0, v) ∷ fs) (f ∷ with_field fs name v)) ≡ value_at other (f ∷ fs)
  put_passed other n f fs Less h later = rw (apart other name n) refl
  put_passed other n f fs Equal h later =
      let skips : is_eq (slice_cmp nat_cmp other f.0) ≡ false = rw (← same_name name f.0 h) (apart other name n) in
      rw skips refl
  put_passed other n f fs Greater h later = ap (λ r. cond (is_eq (slice_cmp nat_cmp other f.0)) (Some f.1) r) later

  value-with_field_other : (other : List ℕ) → other ≢ name → (fs : Fields) → value_at other (with_field fs name v) ≡ value_at other fs
  value-with_field_other other n [] = rw (apart other name n) refl
  value-with_field_other other n (f ∷ fs) = put_passed other n f fs _ refl (value-with_field_other other n fs)

pub puts : PutsAlone
puts fs name v = (value-with_field name v fs, λ other n. value-with_field_other name v other n fs)

module _ (name : List ℕ) where
  cut_found : (f : List ℕ × Value) (fs : Fields) (o : Ordering) → slice_cmp nat_cmp name f.0 ≡ o → IsDocument (f ∷ fs) → value_at name (without_field fs name) ≡ None
      → value_at name (cond (is_eq o) fs (f ∷ without_field fs name)) ≡ None
  cut_found f fs Less h s later = rw h later
  cut_found f fs Equal h s later = value-before name fs s.2 (rw (same_name name f.0 h) s.0)
  cut_found f fs Greater h s later = rw h later

  value-without_field : (fs : Fields) → IsDocument fs → value_at name (without_field fs name) ≡ None
  value-without_field [] s = refl
  value-without_field (f ∷ fs) s = cut_found f fs _ refl s (value-without_field fs s.2)

  cut_passed : (other : List ℕ) → other ≢ name → (f : List ℕ × Value) (fs : Fields) (o : Ordering) → slice_cmp nat_cmp name f.0 ≡ o → value_at other (without_field fs name) ≡ value_at other fs
      → value_at other (cond (is_eq o) fs (f ∷ without_field fs name)) ≡ value_at other (f ∷ fs)
  cut_passed other n f fs Less h later = ap (λ r. cond (is_eq (slice_cmp nat_cmp other f.0)) (Some f.1) r) later
  cut_passed other n f fs Equal h later =
      let skips : is_eq (slice_cmp nat_cmp other f.0) ≡ false = rw (← same_name name f.0 h) (apart other name n) in
      rw skips refl
  cut_passed other n f fs Greater h later = ap (λ r. cond (is_eq (slice_cmp nat_cmp other f.0)) (Some f.1) r) later

  value-without_field_other : (other : List ℕ) → other ≢ name → (fs : Fields) → value_at other (without_field fs name) ≡ value_at other fs
  value-without_field_other other n [] = refl
  value-without_field_other other n (f ∷ fs) = cut_passed other n f fs _ refl (value-without_field_other other n fs)

pub removes : RemovesAlone
removes fs name s = (value-without_field name fs s, λ other n. value-without_field_other name other n fs)

first_found : (f : List ℕ × Value) (fs : Fields) → value_at f.0 (f ∷ fs) ≡ Some f.1
first_found f fs = rw (itself f.0) refl

skipped : (name : List ℕ) (f : List ℕ × Value) (fs : Fields) → is_eq (slice_cmp nat_cmp name f.0) ≡ false → value_at name (f ∷ fs) ≡ value_at name fs
skipped name f fs h = rw h refl

some_inside : (x y : Value) → Some x ≡ Some y → x ≡ y
some_inside x y h = cc

-- what the first fields of two documents that agree tell of the others
module _ (f g : List ℕ × Value) (fs gs : Fields) (s : IsDocument (f ∷ fs)) (t : IsDocument (g ∷ gs)) (agree : (name : List ℕ) → value_at name (f ∷ fs) ≡ value_at name (g ∷ gs)) where
  one_first : (o : Ordering) → slice_cmp nat_cmp f.0 g.0 ≡ o → f.0 ≡ g.0
  one_first Less h = absurd (let here = first_found f fs in let there = value-before f.0 (g ∷ gs) t h in let both = agree f.0 in cc)
  one_first Equal h = same_name f.0 g.0 h
  one_first Greater h = absurd (let here = first_found g gs in let there = value-before g.0 (f ∷ fs) s (turned_back f.0 g.0 h) in let both = agree g.0 in cc)

  same_names : f.0 ≡ g.0
  same_names = one_first _ refl

  same_values : f.1 ≡ g.1
  same_values = some_inside f.1 g.1 (sym (first_found f fs) ∙ agree f.0 ∙ ap (λ name. value_at name (g ∷ gs)) same_names ∙ first_found g gs)

  rest_by : (name : List ℕ) (b : Bool) → is_eq (slice_cmp nat_cmp name f.0) ≡ b → value_at name fs ≡ value_at name gs
  rest_by name true h =
      let here : name ≡ f.0 = (bytes_eq-Decides name f.0).0 (sym (is_eq-slice_cmp name f.0) ∙ h) in
      value-before name fs s.2 (rw here s.0) ∙ sym (value-before name gs t.2 (rw (here, same_names) t.0))
  rest_by name false h =
      let there : is_eq (slice_cmp nat_cmp name g.0) ≡ false = rw (← same_names) h in
      sym (skipped name f fs h) ∙ agree name ∙ skipped name g gs there

  rest_agree : (name : List ℕ) → value_at name fs ≡ value_at name gs
  rest_agree name = rest_by name _ refl

pub same : AreSameByNames
same [] [] s t agree = refl
same [] (g ∷ gs) s t agree = absurd (let here = first_found g gs in let both = agree g.0 in cc)
same (f ∷ fs) [] s t agree = absurd (let here = first_found f fs in let both = agree f.0 in cc)
same (f ∷ fs) (g ∷ gs) s t agree =
    let names = same_names f g fs gs s t agree in
    let values = same_values f g fs gs s t agree in
    let rest = same fs gs s.2 t.2 (rest_agree f g fs gs s t agree) in
    λ i. (names i, values i) ∷ rest i

storable_by : (name : List ℕ) (v : Value) (f : List ℕ × Value) (fs : Fields) (b : Bool) → IsStorable f.1 → (value_at name fs ≡ Some v → IsStorable v) → cond b (Some f.1) (value_at name fs) ≡ Some v → IsStorable v
storable_by name v f fs true k later h = subst IsStorable (some_inside f.1 v h) k
storable_by name v f fs false k later h = later h

IsStorable-value_at : (fs : Fields) (name : List ℕ) → IsDocument fs → (v : Value) → value_at name fs ≡ Some v → IsStorable v
IsStorable-value_at [] name s v h = absurd (cc)
IsStorable-value_at (f ∷ fs) name s v h = storable_by name v f fs _ s.1 (IsStorable-value_at fs name s.2 v) h

pub kept : StaysDocument
kept fs name s = (λ v k. IsDocument-with_field fs name v s k, IsDocument-without_field fs name s, IsStorable-value_at fs name s)
