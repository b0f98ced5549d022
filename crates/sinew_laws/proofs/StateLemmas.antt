-- States as maps of small collections, whose pairs have one place and whose documents have their pairs.
use Rattle.std.proofs.Common.{◌≡◌, ℕ, zero, suc, ◌+◌, ◌≤◌, nat_lt, not, Bool, true, false, List, [], ◌∷◌, length, map, Option, Some, None, refl, sym, ap, ◌∙◌, subst, arith}
use Rattle.std.specs.Prelude.{slice_get}
use Rattle.std.specs.List.{AllByRecursion as EachIs, Contains, list_any, position_or_len}
use Rattle.std.proofs.lemmas.Bool.{cond-true, cond-false, false_from_ne_true, lt-ltb, not_from_true, not_from_false}
use Rattle.std.proofs.lemmas.List.Elements.{recursion_from_All}
use Rattle.std.proofs.lemmas.List.Folds.{find_at, list_any_at}
use Rattle.std.proofs.lemmas.Option.{same_Some, slice_get_within}
use Rattle.std.proofs.lemmas.Slice.Eq.{bytes_eq-Decides}
use Rattle.doc_values.specs.Doc.{Fields}
use Rattle.doc_values.specs.Weight.{weight_of}
use Rattle.doc_values.specs.declared.kind.Kind.{Kind}
use Rattle.doc_values.specs.declared.value.Value.{Value}
use Rattle.doc_flatten.specs.Documents.{IsWithinLimits}
use Rattle.commit_core.specs.State.{Row, Collection, State, pair_of, is_named, collection_at, documents_of_rows}
use Rattle.commit_core.specs.Write.{same_pair, pairs_with, with_fields}
use Rattle.commit_core.proofs.PairsOnce.{same_pair-self}
use Rattle.commit_core.proofs.PairsHeld.{same_pairs}
use Rattle.sinew_laws.specs.States.{IsAMap, KeepsItsLimits, HasOnePlaceForAPair, WhatStandsIsADocument, HasPairsOfAllFields}

-- ---- names

-- No two collections have one name.
abbrev HasNamesOnce : State → Type 0
HasNamesOnce state = (i j : ℕ) (a b : Collection) → slice_get state i ≡ Some a → slice_get state j ≡ Some b → a.name ≡ b.name → i ≡ j

found : (state : State) (i : ℕ) (c : Collection) → HasNamesOnce state → slice_get state i ≡ Some c → collection_at c.name state ≡ Some c
found [] i c names e = absurd (cc)
found (d ∷ more) zero c names e =
    let same : d ≡ c = same_Some d c e in
    cond-true (is_named c.name d) (Some d) (collection_at c.name more) ((bytes_eq-Decides c.name d.name).1 (sym (ap (λ (x : Collection). x.name) same))) ∙ e
found (d ∷ more) (suc i) c names e =
    let other : is_named c.name d ≡ false = false_from_ne_true (is_named c.name d)
    (λ t. let both : suc i ≡ 0 = names (suc i) 0 c d e refl ((bytes_eq-Decides c.name d.name).0 t) in omega arith) in
    let fewer : HasNamesOnce more = λ j k a b f g same. let both : suc j ≡ suc k = names (suc j) (suc k) a b f g same in omega arith in
    cond-false (is_named c.name d) (Some d) (collection_at c.name more) other ∙ found more i c fewer e

-- Each collection of a state is the one that its name finds.
pub is_a_map : IsAMap
is_a_map state i collection h e = found state i collection h.names e

-- ---- limits

-- The limits of a state are these numbers.
pub is_small : KeepsItsLimits
is_small state i collection h e = let one = h.each i collection e in (h.few, one.few_pairs, one.few_versions)

-- ---- pairs

-- The first element that passes is the only one.
first_is : {X : Type 0} (p : X → Bool) (xs : List X) (i : ℕ) (x : X) → slice_get xs i ≡ Some x → p x ≡ true → ((j : ℕ) (y : X) → slice_get xs j ≡ Some y → p y ≡ true → j ≡ i) → position_or_len p xs ≡ i
first_is p [] i x e passes only = absurd (cc)
first_is p (y ∷ ys) zero x e passes only = cond-false (not (p y)) (1 + position_or_len p ys) 0 (not_from_true (p y) (ap p (same_Some y x e) ∙ passes))
first_is p (y ∷ ys) (suc i) x e passes only =
    let other : p y ≡ false = false_from_ne_true (p y) (λ t. let both : 0 ≡ suc i = only 0 y refl t in omega arith) in
    let step : position_or_len p (y ∷ ys) ≡ 1 + position_or_len p ys = cond-true (not (p y)) (1 + position_or_len p ys) 0 (not_from_false (p y) other) in
    let rest : position_or_len p ys ≡ i = first_is p ys i x e passes (λ j z f t. let both : suc j ≡ suc i = only (suc j) z f t in omega arith) in
    omega (arith, step, rest)

-- A pair of a collection is found at its place.
pub has_one_place : HasOnePlaceForAPair
has_one_place collection i pair h e =
    let pairs = collection.pairs in
    let n = position_or_len (same_pair pair) pairs in
    let only : (j : ℕ) (other : List ℕ × Kind) → slice_get pairs j ≡ Some other → same_pair pair other ≡ true → j ≡ i = λ j other f t. h.once j i other pair f e (sym (same_pairs pair other t)) in
    let first : n ≡ i = first_is (same_pair pair) pairs i pair e (same_pair-self pair) only in
    let within : nat_lt n (length pairs) ≡ true = lt-ltb n (length pairs) (omega (arith, first, slice_get_within pairs i pair e)) in
    cond-true (nat_lt n (length pairs)) (Some n) None within ∙ ap (λ (k : ℕ). Some k) first

-- A pair that is among others adds none to them.
with_pair-same : (pairs : List (List ℕ × Kind)) (pair : List ℕ × Kind) → Contains pairs pair → pairs_with pairs pair ≡ pairs
with_pair-same pairs pair h =
    cond-true (list_any (same_pair pair) pairs) _ _ (list_any_at (same_pair pair) pairs h.0 pair h.1 (ap (same_pair pair) h.2 ∙ same_pair-self pair))

with_fields-same : (pairs : List (List ℕ × Kind)) (fields : Fields) → EachIs (λ (f : List ℕ × Value). Contains pairs (pair_of f)) fields → with_fields pairs fields ≡ pairs
with_fields-same pairs [] h = refl
with_fields-same pairs (f ∷ fs) h = ap (λ (ps : List (List ℕ × Kind)). with_fields ps fs) (with_pair-same pairs (pair_of f) h.0) ∙ with_fields-same pairs fs h.1

-- The fields of a document of a collection have the pairs of it.
pub has_its_pairs : HasPairsOfAllFields
has_its_pairs collection i row h e =
    with_fields-same collection.pairs row.document (recursion_from_All (λ (f : List ℕ × Value). Contains collection.pairs (pair_of f)) row.document (h.documents i row e).paired)

-- ---- documents

-- The row of a document.
row_of : (rows : List Row) (i : ℕ) (document : Fields) → slice_get (map (λ (row : Row). row.document) rows) i ≡ Some document → (row : Row) × (slice_get rows i ≡ Some row) × (row.document ≡ document)
row_of [] i document e = absurd (cc)
row_of (r ∷ rows) zero document e = (r, refl, same_Some r.document document e)
row_of (r ∷ rows) (suc i) document e = row_of rows i document e

-- What is found under a name is a document.
pub stands_as_document : WhatStandsIsADocument
stands_as_document state name i document h e = by (collection_at name state) refl e
  where
    by : (o : Option Collection) → collection_at name state ≡ o → slice_get (documents_of_rows o) i ≡ Some document → IsWithinLimits document × (weight_of document ≤ 16777216)
    by None at f = absurd (cc)
    by (Some c) at f =
        let row = row_of c.rows i document f in
        let place : slice_get state (position_or_len (is_named name) state) ≡ Some c = sym (find_at (is_named name) state) ∙ at in
        let it = (h.each (position_or_len (is_named name) state) c place).documents i row.0 row.1 in
        (subst (λ (x : Fields). IsWithinLimits x) row.2 it.limits, subst (λ (x : Fields). weight_of x ≤ 16777216) row.2 it.light)
