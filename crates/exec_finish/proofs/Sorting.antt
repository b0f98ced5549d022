-- Rows in the order of their keys are the one list that std's stable sort can leave.
use Rattle.std.proofs.Common.{◌≡◌, ℕ, zero, suc, ◌<◌, List, [], ◌∷◌, Bool, true, false, cond, not, ◌&&◌, filter, length, get_or, IsPermutation, IsSortedBy, Bor, refl, sym, ap, ◌∙◌, subst, true≢false, arith, add-one, Ordering, is_lt}
use Rattle.std.specs.Ordering.{ordering_reverse}
use Rattle.std.specs.List.{AllByRecursion as EachIs}
use Rattle.std.specs.List.Sorted.{ties, IsStableBy}
use Rattle.std.specs.Cmp.{IsTotalOrder, IsStrictWeakOrder}
use Rattle.std.proofs.lemmas.Cmp.{on_total, then_total, back_total, tied_itself}
use Rattle.std.proofs.lemmas.List.Elements.{recursion_from_All}
use Rattle.std.proofs.lemmas.List.Sorted.{ranks_by, sorted_far, IsPermutation-refl, IsPermutation-sym, IsPermutation-cons, IsPermutation-trans, IsPermutation-middle}
use Rattle.doc_values.specs.Order.{total_order}
use Rattle.doc_values.proofs.Ordered.{IsTotalOrder-total_order}
use Rattle.row_columns.specs.Contents.{Output}
use Rattle.exec_finish.specs.Order.{first_key, other_keys, key_order, row_order, put_in, ordered}

-- ---- the order of rows is total

reversed_total : IsTotalOrder (λ a b. ordering_reverse (total_order a b))
reversed_total = subst IsTotalOrder (λ i a b. IsTotalOrder-total_order.antisymm b a i) (back_total IsTotalOrder-total_order)

directed_total : (descending : Bool) → IsTotalOrder (λ a b. cond descending (ordering_reverse (total_order a b)) (total_order a b))
directed_total true = reversed_total
directed_total false = IsTotalOrder-total_order

keys_total : (descending : List Bool) → IsTotalOrder (key_order descending)
keys_total [] = record { antisymm = λ x y. refl; trans = λ x y z p q. p; congr = λ x y z p. refl }
keys_total (d ∷ ds) = then_total (on_total first_key (directed_total d)) (on_total other_keys (keys_total ds))

pub IsTotalOrder-row_order : (descending : List Bool) → IsTotalOrder (row_order descending)
IsTotalOrder-row_order descending = on_total (λ r. r.keys) (keys_total descending)

module _ (descending : List Bool) where
  abbrev pub before : Output → Output → Bool
  before r s = is_lt (row_order descending r s)

  pub IsStrictWeakOrder-before : IsStrictWeakOrder before
  IsStrictWeakOrder-before = ranks_by (IsTotalOrder-row_order descending) (λ r. r)

  irreflexive : (r : Output) → before r r ≡ false
  irreflexive r = ap is_lt (tied_itself (IsTotalOrder-row_order descending) r)

  -- ---- rising lists

  -- no later row comes before an earlier one
  unfoldable pub Rises : List Output → Type 0
  Rises [] = Unit {0}
  Rises (r ∷ rs) = EachIs (λ s. before s r ≡ false) rs × Rises rs

  rises_from_sorted : (rs : List Output) → IsSortedBy before rs → Rises rs
  unfolding Rises
  rises_from_sorted [] up = tt
  rises_from_sorted (r ∷ rs) up = (
    recursion_from_All (λ s. before s r ≡ false) rs (λ k d h. sorted_far before IsStrictWeakOrder-before (r ∷ rs) up 0 (suc k) d (omega arith) (omega arith)),
    rises_from_sorted rs (λ k d l h. subst (λ n. before (get_or (r ∷ rs) n d) (get_or rs k d) ≡ false) (add-one (suc k) ∙ ap suc (sym (add-one k))) (up (suc k) d (omega arith) (omega arith))),
  )

  step_from_rises : (rs : List Output) → Rises rs → (k : ℕ) (d : Output) → suc k < length rs → before (get_or rs (suc k) d) (get_or rs k d) ≡ false
  unfolding Rises
  step_from_rises [] h k d l = absurd (omega arith)
  step_from_rises (r ∷ []) h k d l = absurd (omega arith)
  step_from_rises (r ∷ s ∷ rs) h zero d l = h.0.0
  step_from_rises (r ∷ s ∷ rs) h (suc k) d l = step_from_rises (s ∷ rs) h.1 k d (omega arith)

  sorted_from_rises : (rs : List Output) → Rises rs → IsSortedBy before rs
  sorted_from_rises rs h k d low l = subst (λ n. before (get_or rs n d) (get_or rs k d) ≡ false) (sym (add-one k)) (step_from_rises rs h k d (omega arith))

  -- ---- what is put in

  EachIs-put_in : (P : Output → Type 0) (r : Output) (ss : List Output) → P r → EachIs P ss → EachIs P (put_in descending r ss)
  EachIs-put_in P r [] p h = (p, tt)
  EachIs-put_in P r (s ∷ ss) p h = by_order (EachIs-put_in P r ss p h.1) (before s r)
    where
      by_order : EachIs P (put_in descending r ss) → (b : Bool) → EachIs P (cond b (s ∷ put_in descending r ss) (r ∷ s ∷ ss))
      by_order more true = (h.0, more)
      by_order more false = (p, h)

  EachIs-weaker : (P Q : Output → Type 0) → ((r : Output) → P r → Q r) → (ss : List Output) → EachIs P ss → EachIs Q ss
  EachIs-weaker P Q f [] h = tt
  EachIs-weaker P Q f (s ∷ ss) h = (f s h.0, EachIs-weaker P Q f ss h.1)

  rises_put_in : (r : Output) (ss : List Output) → Rises ss → Rises (put_in descending r ss)
  unfolding Rises
  rises_put_in r [] h = (tt, tt)
  rises_put_in r (s ∷ ss) h = by_order (rises_put_in r ss h.1) (before s r) refl
    where
      by_order : Rises (put_in descending r ss) → (b : Bool) → before s r ≡ b → Rises (cond b (s ∷ put_in descending r ss) (r ∷ s ∷ ss))
      by_order more true e = (EachIs-put_in (λ t. before t s ≡ false) r ss (IsStrictWeakOrder-before.one_way s r e) h.0, more)
      by_order more false e = ((e, EachIs-weaker (λ t. before t s ≡ false) (λ t. before t r ≡ false) (λ t p. IsStrictWeakOrder-before.chain t s r p e) ss h.0), h)

  pub rises_ordered : (rs : List Output) → Rises (ordered descending rs)
  unfolding Rises
  rises_ordered [] = tt
  rises_ordered (r ∷ rs) = rises_put_in r (ordered descending rs) (rises_ordered rs)

  -- ---- rows that tie

  either_order : (a b : Bool) → (a ≡ false → b ≡ false → ⊥) → not a && not b ≡ false
  either_order true b f = refl
  either_order false true f = refl
  either_order false false f = absurd (f refl refl)

  first_not : (a b : Bool) → not a && not b ≡ true → a ≡ false
  first_not true b e = sym e
  first_not false b e = refl

  second_not : (a b : Bool) → not a && not b ≡ true → b ≡ false
  second_not true b e = absurd (true≢false (sym e))
  second_not false true e = sym e
  second_not false false e = refl

  -- none ties with both of two that do not tie
  apart : (x r s : Output) → before s r ≡ true → (a b : Bool) → ties before x r ≡ a → ties before x s ≡ b → a && b ≡ false
  apart x r s h true true p q =
      let after : before s x ≡ false = second_not (before x s) (before s x) q in
      let below : before x r ≡ false = first_not (before x r) (before r x) p in
      absurd (true≢false (sym h ∙ IsStrictWeakOrder-before.chain s x r after below))
  apart x r s h true false p q = refl
  apart x r s h false b p q = refl

  exchanged : (r s : Output) (rest : List Output) (a b : Bool) → a && b ≡ false → cond b (s ∷ cond a (r ∷ rest) rest) (cond a (r ∷ rest) rest) ≡ cond a (r ∷ cond b (s ∷ rest) rest) (cond b (s ∷ rest) rest)
  exchanged r s rest true true e = absurd (true≢false e)
  exchanged r s rest true false e = refl
  exchanged r s rest false b e = refl

  stable_put_in : (x r : Output) (ss : List Output) → filter (ties before x) (put_in descending r ss) ≡ filter (ties before x) (r ∷ ss)
  stable_put_in x r [] = refl
  stable_put_in x r (s ∷ ss) = by_order (stable_put_in x r ss) (before s r) refl
    where
      by_order : filter (ties before x) (put_in descending r ss) ≡ filter (ties before x) (r ∷ ss) → (b : Bool) → before s r ≡ b → filter (ties before x) (cond b (s ∷ put_in descending r ss) (r ∷ s ∷ ss)) ≡ filter (ties before x) (r ∷ s ∷ ss)
      by_order more true e =
          ap (λ fs. cond (ties before x s) (s ∷ fs) fs) more
          ∙ exchanged r s (filter (ties before x) ss) (ties before x r) (ties before x s) (apart x r s e (ties before x r) (ties before x s) refl refl)
      by_order more false e = refl

  stable_ordered : (rs : List Output) → IsStableBy before rs (ordered descending rs)
  stable_ordered [] x = refl
  stable_ordered (r ∷ rs) x = stable_put_in x r (ordered descending rs) ∙ ap (λ fs. cond (ties before x r) (r ∷ fs) fs) (stable_ordered rs x)

  -- ---- the same rows

  permutation_put_in : (r : Output) (ss : List Output) → IsPermutation (r ∷ ss) (put_in descending r ss)
  permutation_put_in r [] = IsPermutation-refl (r ∷ [])
  permutation_put_in r (s ∷ ss) = by_order (permutation_put_in r ss) (before s r)
    where
      by_order : IsPermutation (r ∷ ss) (put_in descending r ss) → (b : Bool) → IsPermutation (r ∷ s ∷ ss) (cond b (s ∷ put_in descending r ss) (r ∷ s ∷ ss))
      by_order more true =
          IsPermutation-trans (r ∷ s ∷ ss) (s ∷ r ∷ ss) (s ∷ put_in descending r ss)
          (IsPermutation-sym (s ∷ r ∷ ss) (r ∷ s ∷ ss) (IsPermutation-middle (s ∷ []) r ss))
          (IsPermutation-cons s (r ∷ ss) (put_in descending r ss) more)
      by_order more false = IsPermutation-refl (r ∷ s ∷ ss)

  pub IsPermutation-ordered : (rs : List Output) → IsPermutation rs (ordered descending rs)
  IsPermutation-ordered [] = IsPermutation-refl []
  IsPermutation-ordered (r ∷ rs) =
      IsPermutation-trans (r ∷ rs) (r ∷ ordered descending rs) (ordered descending (r ∷ rs))
      (IsPermutation-cons r rs (ordered descending rs) (IsPermutation-ordered rs)) (permutation_put_in r (ordered descending rs))

  -- ---- one list alone

  -- rows none of which comes before z have none that ties with y, where y does
  none_tie : (y z : Output) → before y z ≡ true → (ws : List Output) → EachIs (λ w. before w z ≡ false) ws → filter (ties before y) ws ≡ []
  none_tie y z h [] e = refl
  none_tie y z h (w ∷ ws) e =
      ap (λ b. cond b (w ∷ filter (ties before y) ws) (filter (ties before y) ws))
      (either_order (before y w) (before w y) (λ p q. true≢false (sym h ∙ IsStrictWeakOrder-before.chain y w z p e.0)))
      ∙ none_tie y z h ws e.1

  ties_itself : (r : Output) → ties before r r ≡ true
  ties_itself r = λ i. not (irreflexive r i) && not (irreflexive r i)

  not_empty : (r : Output) (rs : List Output) → (r ∷ rs) ≡ [] → ⊥
  not_empty r rs e = cc

  not_before : (y z : Output) (ys zs : List Output) → EachIs (λ w. before w z ≡ false) zs → filter (ties before y) (y ∷ ys) ≡ filter (ties before y) (z ∷ zs) → (b : Bool) → before y z ≡ b → b ≡ false
  not_before y z ys zs e same false h = refl
  not_before y z ys zs e same true h =
      let kept : (y ∷ filter (ties before y) ys) ≡ filter (ties before y) (y ∷ ys) = sym (ap (λ b. cond b (y ∷ filter (ties before y) ys) (filter (ties before y) ys)) (ties_itself y)) in
      absurd (not_empty y (filter (ties before y) ys) (kept ∙ same ∙ none_tie y z h (z ∷ zs) (irreflexive z, e)))

  head : Output → List Output → Output
  head d [] = d
  head d (r ∷ rs) = r

  tail : List Output → List Output
  tail [] = []
  tail (r ∷ rs) = rs

  tails : (b c : Bool) (y z : Output) (ys zs : List Output) → b ≡ c → cond b (y ∷ ys) ys ≡ cond c (z ∷ zs) zs → ys ≡ zs
  unfolding tail
  tails true true y z ys zs p e = ap tail e
  tails true false y z ys zs p e = absurd (true≢false p)
  tails false true y z ys zs p e = absurd (true≢false (sym p))
  tails false false y z ys zs p e = e

  one_alone : (ys zs : List Output) → Rises ys → Rises zs → ((x : Output) → filter (ties before x) ys ≡ filter (ties before x) zs) → ys ≡ zs
  unfolding Rises head
  one_alone [] [] g h same = refl
  one_alone [] (z ∷ zs) g h same = absurd (not_empty z (filter (ties before z) zs) (sym (ap (λ b. cond b (z ∷ filter (ties before z) zs) (filter (ties before z) zs)) (ties_itself z)) ∙ sym (same z)))
  one_alone (y ∷ ys) [] g h same = absurd (not_empty y (filter (ties before y) ys) (sym (ap (λ b. cond b (y ∷ filter (ties before y) ys) (filter (ties before y) ys)) (ties_itself y)) ∙ same y))
  one_alone (y ∷ ys) (z ∷ zs) g h same =
      let low = not_before y z ys zs h.0 (same y) (before y z) refl in
      let high = not_before z y zs ys g.0 (sym (same z)) (before z y) refl in
      let tied : ties before y z ≡ true = λ i. not (low i) && not (high i) in
      let fronts : (y ∷ filter (ties before y) ys) ≡ (z ∷ filter (ties before y) zs) =
      sym (ap (λ b. cond b (y ∷ filter (ties before y) ys) (filter (ties before y) ys)) (ties_itself y)) ∙ same y ∙ ap (λ b. cond b (z ∷ filter (ties before y) zs) (filter (ties before y) zs)) tied in
      let first : y ≡ z = ap (head y) fronts in
      let rest = one_alone ys zs g.1 h.1 (λ x. tails (ties before x y) (ties before x z) y z (filter (ties before x) ys) (filter (ties before x) zs) (ap (ties before x) first) (same x)) in
      λ i. first i ∷ rest i

  pub sorted_ordered : (rs : List Output) → IsSortedBy before (ordered descending rs)
  sorted_ordered rs = sorted_from_rises (ordered descending rs) (rises_ordered rs)

  pub IsStableBy-ordered : (rs : List Output) → IsStableBy before rs (ordered descending rs)
  IsStableBy-ordered = stable_ordered

  pub only_ordered : (rs others : List Output) → IsSortedBy before others → IsStableBy before rs others → others ≡ ordered descending rs
  only_ordered rs others up stable = one_alone others (ordered descending rs) (rises_from_sorted others up) (rises_ordered rs) (λ x. stable x ∙ sym (stable_ordered rs x))
