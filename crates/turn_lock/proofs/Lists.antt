-- Lemmas on lists, on totals and on functions of numbers.
use Rattle.std.proofs.Common.{◌≡◌, ℕ, zero, suc, ◌+◌, ◌<◌, ◌≤◌, ◌≢◌, ◌⊎◌, ◌==◌, nat_lt, eqb, cond, Bool, true, false, List, [], ◌∷◌, ◌++◌, length, get_or, set, drop, All, refl, sym, ap, ◌∙◌, inl, inr, ⊎_elim, arith, append-nil, append_assoc, eq-eqb, ne_eqb}
use Rattle.std.proofs.lemmas.List.Elements.{filter-append, All-head, All-tail}
use Rattle.std.proofs.lemmas.Bool.Decides.{nat_tests}
use mathlib.Core.Option.{some, some-injective, some-ne-none}
use lib.ListN.{get_elem?}
use Rattle.turn_lock.specs.Pass.{Extends, entries_of, longer}
use Rattle.turn_lock.specs.Rule.{total}

-- a function changed at one number
abbrev pub over : {A : Type 0} → (ℕ → A) → ℕ → A → ℕ → A
over f n a k = cond (eqb k n) a (f k)

module _ {A : Type 0} where
  pub over_here : (f : ℕ → A) (n : ℕ) (a : A) → over f n a n ≡ a
  over_here f n a = ap (λ b. cond b a (f n)) (eq-eqb n n refl)

  pub over_else : (f : ℕ → A) (n : ℕ) (a : A) (k : ℕ) → k ≢ n → over f n a k ≡ f k
  over_else f n a k other = ap (λ b. cond b a (f k)) (ne_eqb k n other)

  pub set_at : (l : List A) (i : ℕ) (a b : A) → get_elem? l i ≡ some a → get_elem? (set l i b) i ≡ some b
  set_at [] i a b e = absurd (some-ne-none a (sym e))
  set_at (x ∷ xs) zero a b e = refl
  set_at (x ∷ xs) (suc i) a b e = set_at xs i a b e

  pub below : (l : List A) (i : ℕ) (a : A) → get_elem? l i ≡ some a → i < length l
  below [] i a e = absurd (some-ne-none a (sym e))
  below (x ∷ xs) zero a e = omega arith
  below (x ∷ xs) (suc i) a e = let h = below xs i a e in omega arith

  pub at_push : (l : List A) (a b : A) (i : ℕ) → get_elem? (l ++ a ∷ []) i ≡ some b → (get_elem? l i ≡ some b) ⊎ ((i ≡ length l) × (a ≡ b))
  at_push [] a b zero e = inr (refl, some-injective a b e)
  at_push [] a b (suc i) e = absurd (some-ne-none b (sym e))
  at_push (x ∷ xs) a b zero e = inl e
  at_push (x ∷ xs) a b (suc i) e = ⊎_elim inl (λ t. inr (ap suc t.0, t.1)) (at_push xs a b i e)

  module _ (f : A → ℕ) where
    pub total_set : (vs : List A) (i : ℕ) (v w : A) → get_elem? vs i ≡ some v → total f (set vs i w) + f v ≡ total f vs + f w
    total_set [] i v w e = absurd (some-ne-none v (sym e))
    total_set (x ∷ xs) zero v w e = let is : f x ≡ f v = ap f (some-injective x v e) in omega arith
    total_set (x ∷ xs) (suc i) v w e = let r = total_set xs i v w e in omega arith

    pub total_push : (vs : List A) (w : A) → total f (vs ++ w ∷ []) ≡ total f vs + f w
    total_push [] w = omega arith
    total_push (x ∷ xs) w = let r = total_push xs w in omega arith

    pub total_most : (vs : List A) → ((v : A) → f v ≤ 1) → total f vs ≤ length vs
    total_most [] most = omega arith
    total_most (x ∷ xs) most = let r = total_most xs most in let h = most x in omega arith

    pub total_has : (vs : List A) (i : ℕ) (v : A) → get_elem? vs i ≡ some v → f v ≤ total f vs
    total_has [] i v e = absurd (some-ne-none v (sym e))
    total_has (x ∷ xs) zero v e = let is : f x ≡ f v = ap f (some-injective x v e) in omega arith
    total_has (x ∷ xs) (suc i) v e = let r = total_has xs i v e in omega arith

module _ {E : Type 0} where
  pub extends_itself : (xs : List E) → Extends xs xs
  extends_itself xs = ([], sym (append-nil xs))

  pub extends_more : (xs log more : List E) → Extends xs log → Extends xs (log ++ more)
  extends_more xs log more e = (e.0 ++ more, ap (λ l. l ++ more) e.1 ∙ append_assoc xs e.0 more)

  -- of two beginnings of one list the longer goes on from the shorter
  pub extends_both : (xs ys log : List E) → Extends xs log → Extends ys log → length xs ≤ length ys → Extends xs ys
  extends_both [] ys log a b le = (ys, refl)
  extends_both (x ∷ xs) [] log a b le = absurd (omega arith)
  extends_both (x ∷ xs) (y ∷ ys) log a b le =
      let same : x ∷ (xs ++ a.0) ≡ y ∷ (ys ++ b.0) = sym a.1 ∙ b.1 in
      let tail : xs ++ a.0 ≡ ys ++ b.0 = ap (λ l. drop 1 l) same in
      let head : x ≡ y = ap (λ l. get_or l 0 x) same in
      let rest = extends_both xs ys (xs ++ a.0) (a.0, refl) (b.0, tail) (omega arith) in
      (rest.0, λ i. sym head i ∷ rest.1 i)

  longer_by : (xs ys log : List E) → Extends xs log → Extends ys log → (b : Bool) → nat_lt (length xs) (length ys) ≡ b
      → Extends xs (cond b ys xs) × Extends ys (cond b ys xs) × Extends (cond b ys xs) log
  longer_by xs ys log a b true is = (extends_both xs ys log a b (grind (arith, nat_tests)), extends_itself ys, b)
  longer_by xs ys log a b false is = (extends_itself xs, extends_both ys xs log b a (grind (arith, nat_tests)), a)

  pub longer_of : (xs ys log : List E) → Extends xs log → Extends ys log → Extends xs (longer xs ys) × Extends ys (longer xs ys) × Extends (longer xs ys) log
  longer_of xs ys log a b = longer_by xs ys log a b (nat_lt (length xs) (length ys)) refl

  module _ (by : E → ℕ) where
    pub entries_own : (c : ℕ) (es : List E) → All (λ e. by e ≡ c) es → entries_of by c es ≡ es
    entries_own c [] all = refl
    entries_own c (e ∷ es) all =
        let h : by e ≡ c = All-head (λ x. by x ≡ c) e es all in
        ap (λ b. cond b (e ∷ entries_of by c es) (entries_of by c es)) (eq-eqb (by e) c h)
        ∙ ap (λ l. e ∷ l) (entries_own c es (All-tail (λ x. by x ≡ c) e es all))

    pub entries_other : (c d : ℕ) (es : List E) → d ≢ c → All (λ e. by e ≡ c) es → entries_of by d es ≡ []
    entries_other c d [] other all = refl
    entries_other c d (e ∷ es) other all =
        let h : by e ≡ c = All-head (λ x. by x ≡ c) e es all in
        ap (λ b. cond b (e ∷ entries_of by d es) (entries_of by d es)) (ne_eqb (by e) d (λ is. other (sym is ∙ h)))
        ∙ entries_other c d es other (All-tail (λ x. by x ≡ c) e es all)

    -- entries of one caller are added: its own grow by them, and those of each other stay
    pub entries_grown : (c : ℕ) (log es : List E) → All (λ e. by e ≡ c) es → entries_of by c (log ++ es) ≡ entries_of by c log ++ es
    entries_grown c log es all = filter-append (λ e. by e == c) log es ∙ ap (λ l. entries_of by c log ++ l) (entries_own c es all)

    pub entries_stay : (c d : ℕ) (log es : List E) → d ≢ c → All (λ e. by e ≡ c) es → entries_of by d (log ++ es) ≡ entries_of by d log
    entries_stay c d log es other all =
        filter-append (λ e. by e == d) log es ∙ (ap (λ l. entries_of by d log ++ l) (entries_other c d es other all) ∙ append-nil (entries_of by d log))
