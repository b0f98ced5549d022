-- The pairs of the documents that were put in stand among the pairs.
use Rattle.std.proofs.Common.{◌≡◌, ℕ, zero, suc, ◌||◌, Bool, true, false, List, [], ◌∷◌, ◌++◌, get_or, fold, Some, slice_get, refl, sym, ap, subst, ◌∙◌, arith}
use Rattle.std.specs.Prelude.{All}
use Rattle.std.specs.List.{Contains, list_any}
use Rattle.std.proofs.lemmas.Bool.{false≢true}
use Rattle.std.proofs.lemmas.Option.{slice_get-get_or, same_Some}
use Rattle.std.proofs.lemmas.Slice.Eq.{bytes_eq-Decides}
use Rattle.doc_values.specs.Doc.{Fields}
use Rattle.doc_values.specs.declared.kind.Kind.{Kind}
use Rattle.doc_values.specs.declared.kind.Kind.TheVariants as kind
use Rattle.doc_values.specs.declared.value.Value.{Value}
use Rattle.std.specs.Str.{bytes_eq}
use Rattle.commit_core.specs.State.{pair_of}
use Rattle.doc_values.specs.Order.{same_kind}
use Rattle.commit_core.specs.Write.{same_pair, pairs_with, with_fields}
use Rattle.document_records.proofs.CatalogNumbers.{contains_head, contains_later, both}

abbrev Pairs : Type 0
Pairs = List (List ℕ × Kind)

-- ---- lists

contains_front : {X : Type 0} (x : X) (xs ys : List X) → Contains xs x → Contains (xs ++ ys) x
contains_front x [] ys h = absurd (omega (arith, h.1))
contains_front x (y ∷ xs) ys (zero, lt, is) = (0, omega arith, is)
contains_front x (y ∷ xs) ys (suc k, lt, is) = contains_later y x (xs ++ ys) (contains_front x xs ys (k, omega arith, is))

contains_last : {X : Type 0} (x : X) (xs : List X) → Contains (xs ++ x ∷ []) x
contains_last x [] = contains_head x []
contains_last x (y ∷ xs) = contains_later y x (xs ++ x ∷ []) (contains_last x xs)

-- ---- one pair more

pub same_kinds : (a b : Kind) → same_kind a b ≡ true → a ≡ b
same_kinds kind.Bool kind.Bool e = refl
same_kinds kind.Int kind.Int e = refl
same_kinds kind.Text kind.Text e = refl
same_kinds kind.Array kind.Array e = refl
same_kinds kind.Object kind.Object e = refl
same_kinds a b e = absurd (false≢true e)

pub same_pairs : (a b : List ℕ × Kind) → same_pair a b ≡ true → a ≡ b
same_pairs a b e =
    let parts = both (bytes_eq a.0 b.0) (same_kind a.1 b.1) e in
    let name : a.0 ≡ b.0 = (bytes_eq-Decides a.0 b.0).0 parts.0 in
    let of : a.1 ≡ b.1 = same_kinds a.1 b.1 parts.1 in
    λ i. (name i, of i)

any_by : (pair p : List ℕ × Kind) (pairs : Pairs) (t : Bool) → same_pair pair p ≡ t → (list_any (same_pair pair) pairs ≡ true → Contains pairs pair) → t || list_any (same_pair pair) pairs ≡ true → Contains (p ∷ pairs) pair
any_by pair p pairs true is later e = (0, omega arith, sym (same_pairs pair p is))
any_by pair p pairs false is later e = contains_later p pair pairs (later e)

any_there : (pair : List ℕ × Kind) (pairs : Pairs) → list_any (same_pair pair) pairs ≡ true → Contains pairs pair
any_there pair [] e = absurd (false≢true e)
any_there pair (p ∷ pairs) e = any_by pair p pairs (same_pair pair p) refl (any_there pair pairs) e

pair_grows : (pairs : Pairs) (more pair : List ℕ × Kind) → Contains pairs pair → Contains (pairs_with pairs more) pair
pair_grows pairs more pair h = by (list_any (same_pair more) pairs) refl
  where
    by : (t : Bool) → list_any (same_pair more) pairs ≡ t → Contains (pairs_with pairs more) pair
    by true is = simp is h
    by false is = simp is (contains_front pair pairs (more ∷ []) h)

pair_there : (pairs : Pairs) (pair : List ℕ × Kind) → Contains (pairs_with pairs pair) pair
pair_there pairs pair = by (list_any (same_pair pair) pairs) refl
  where
    by : (t : Bool) → list_any (same_pair pair) pairs ≡ t → Contains (pairs_with pairs pair) pair
    by true is = simp is (any_there pair pairs is)
    by false is = simp is (contains_last pair pairs)

-- ---- the pairs of fields

fields_grow : (fs : Fields) (pairs : Pairs) (pair : List ℕ × Kind) → Contains pairs pair → Contains (with_fields pairs fs) pair
fields_grow [] pairs pair h = h
fields_grow (f ∷ fs) pairs pair h = fields_grow fs (pairs_with pairs (pair_of f)) pair (pair_grows pairs (pair_of f) pair h)

field_there : (fs : Fields) (pairs : Pairs) (k : ℕ) (f : List ℕ × Value) → slice_get fs k ≡ Some f → Contains (with_fields pairs fs) (pair_of f)
field_there [] pairs k f e = absurd (cc)
field_there (g ∷ fs) pairs zero f e =
    let same : g ≡ f = same_Some g f e in
    fields_grow fs (pairs_with pairs (pair_of g)) (pair_of f) (ap_there pairs g f same)
  where
    ap_there : (pairs : Pairs) (g f : List ℕ × Value) → g ≡ f → Contains (pairs_with pairs (pair_of g)) (pair_of f)
    ap_there pairs g f same = subst (λ (x : List ℕ × Value). Contains (pairs_with pairs (pair_of g)) (pair_of x)) same (pair_there pairs (pair_of g))
field_there (g ∷ fs) pairs (suc k) f e = field_there fs (pairs_with pairs (pair_of g)) k f e

-- ---- the pairs of documents

pub documents_grow : (ds : List Fields) (pairs : Pairs) (pair : List ℕ × Kind) → Contains pairs pair → Contains (fold with_fields pairs ds) pair
documents_grow [] pairs pair h = h
documents_grow (d ∷ ds) pairs pair h = documents_grow ds (with_fields pairs d) pair (fields_grow d pairs pair h)

field_of_document : (ds : List Fields) (pairs : Pairs) (k : ℕ) (d : Fields) → slice_get ds k ≡ Some d → (j : ℕ) (f : List ℕ × Value) → slice_get d j ≡ Some f → Contains (fold with_fields pairs ds) (pair_of f)
field_of_document [] pairs k d e j f at = absurd (cc)
field_of_document (c ∷ ds) pairs zero d e j f at =
    let same : c ≡ d = same_Some c d e in
    documents_grow ds (with_fields pairs c) (pair_of f) (field_there c pairs j f (ap (λ (x : Fields). slice_get x j) same ∙ at))
field_of_document (c ∷ ds) pairs (suc k) d e j f at = field_of_document ds (with_fields pairs c) k d e j f at

-- each field of a document that was put in has its pair among the pairs
pub documents_paired : (ds : List Fields) (pairs : Pairs) (k : ℕ) (d : Fields) → slice_get ds k ≡ Some d → All (λ (f : List ℕ × Value). Contains (fold with_fields pairs ds) (pair_of f)) d
documents_paired ds pairs k d e = λ j x lt. field_of_document ds pairs k d e j (get_or d j x) (slice_get-get_or d j x lt)
