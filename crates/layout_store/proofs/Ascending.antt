-- Numbers that ascend: one more put in, and those before a place.
use Rattle.std.proofs.Common.{◌≡◌, ◌⊎◌, inl, inr, ℕ, zero, suc, ◌+◌, ◌-◌, ◌<◌, ◌≤◌, ◌==◌, ◌||◌, nat_lt, Bool, true, false, List, [], ◌∷◌, length, get_or, refl, sym, ap, ◌∙◌, arith}
use Rattle.std.specs.List.{insert}
use Rattle.std.proofs.lemmas.Bool.{cases_order}
use Rattle.std.proofs.lemmas.Bool.Decides.{nat_tests}
use Rattle.std.proofs.lemmas.List.Edits.{get_or-insert_at, get_or-insert_below, get_or-insert_above}
use Rattle.layout_store.specs.Listed.{IsListed, Rises}
use Rattle.layout_store.proofs.Attributes.{test_same, test_other}

pub rises-weakly : (ids : List ℕ) → Rises ids → (i j : ℕ) → i ≤ j → j < length ids → get_or ids i 0 ≤ get_or ids j 0
rises-weakly ids h i j le lt = by (cases_order i j)
  where
    by : (i ≡ j) ⊎ ((i < j) ⊎ (j < i)) → get_or ids i 0 ≤ get_or ids j 0
    by (inl e) = let same : get_or ids i 0 ≡ get_or ids j 0 = ap (λ (k : ℕ). get_or ids k 0) e in omega (arith, same)
    by (inr (inl less)) = let up = h i j less lt in omega (arith, up)
    by (inr (inr more)) = absurd (omega arith)

-- ---- one more

module _ (ids : List ℕ) (place x : ℕ) (within : place ≤ length ids) where
  -- What stands at a place afterwards.
  abbrev Stands : ℕ → Type 0
  Stands j = ((j < place) × (get_or (insert ids place x) j 0 ≡ get_or ids j 0)) ⊎ (((j ≡ place) × (get_or (insert ids place x) j 0 ≡ x)) ⊎ ((place < j) × (get_or (insert ids place x) j 0 ≡ get_or ids (j - 1) 0)))

  stands : (j : ℕ) → Stands j
  stands j = by (cases_order j place)
    where
      by : (j ≡ place) ⊎ ((j < place) ⊎ (place < j)) → Stands j
      by (inl e) = inr (inl (e, ap (λ (k : ℕ). get_or (insert ids place x) k 0) e ∙ get_or-insert_at ids place x 0 within))
      by (inr (inl less)) = inl (less, get_or-insert_below ids place x 0 j less within)
      by (inr (inr more)) =
          let up : (j - 1) + 1 ≡ j = omega (arith, more) in
          let at : place ≤ j - 1 = omega (arith, more) in
          inr (inr (more, ap (λ (k : ℕ). get_or (insert ids place x) k 0) (sym up) ∙ get_or-insert_above ids place x 0 (j - 1) at within))

  pub listed-stays : length (insert ids place x) ≡ length ids + 1 → (i : ℕ) → IsListed i ids → IsListed i (insert ids place x)
  listed-stays long i h = by (nat_lt h.0 place) refl
    where
      by : (t : Bool) → nat_lt h.0 place ≡ t → IsListed i (insert ids place x)
      by true e = let less : h.0 < place = grind (arith, nat_tests) in (h.0, omega (arith, long, h.1), get_or-insert_below ids place x 0 h.0 less within ∙ h.2)
      by false e = let ge : place ≤ h.0 = grind (arith, nat_tests) in (h.0 + 1, omega (arith, long, h.1), get_or-insert_above ids place x 0 h.0 ge within ∙ h.2)

  pub listed-now : length (insert ids place x) ≡ length ids + 1 → IsListed x (insert ids place x)
  listed-now long = (place, omega (arith, long, within), get_or-insert_at ids place x 0 within)

  pub rises-more : length (insert ids place x) ≡ length ids + 1 → Rises ids → ((k : ℕ) → k < place → get_or ids k 0 < x) → ((k : ℕ) → place ≤ k → k < length ids → x < get_or ids k 0) → Rises (insert ids place x)
  rises-more long h low high i j lt within_j = by (stands i) (stands j)
    where
      by : Stands i → Stands j → get_or (insert ids place x) i 0 < get_or (insert ids place x) j 0
      by (inl a) (inl b) = let up = h i j lt (omega (arith, b.0, within)) in omega (arith, a.1, b.1, up)
      by (inl a) (inr (inl b)) = let up = low i a.0 in omega (arith, a.1, b.1, up)
      by (inl a) (inr (inr b)) = let up = h i (j - 1) (omega (arith, a.0, b.0)) (omega (arith, long, within_j, b.0)) in omega (arith, a.1, b.1, up)
      by (inr (inl a)) (inl b) = absurd (omega (arith, a.0, b.0, lt))
      by (inr (inl a)) (inr (inl b)) = absurd (omega (arith, a.0, b.0, lt))
      by (inr (inl a)) (inr (inr b)) = let up = high (j - 1) (omega (arith, b.0)) (omega (arith, long, within_j, b.0)) in omega (arith, a.1, b.1, up)
      by (inr (inr a)) (inl b) = absurd (omega (arith, a.0, b.0, lt))
      by (inr (inr a)) (inr (inl b)) = absurd (omega (arith, a.0, b.0, lt))
      by (inr (inr a)) (inr (inr b)) = let up = h (i - 1) (j - 1) (omega (arith, lt, a.0)) (omega (arith, long, within_j, b.0)) in omega (arith, a.1, b.1, up)

-- ---- those before a place

-- A number stands before a place.
abbrev pub among : List ℕ → ℕ → ℕ → Bool
among [] k i = false
among (x ∷ xs) zero i = false
among (x ∷ xs) (suc k) i = (x == i) || among xs k i

among_none : (ids : List ℕ) (i : ℕ) → among ids zero i ≡ false
among_none [] i = refl
among_none (x ∷ xs) i = refl

or_false : (b : Bool) → b || false ≡ b
or_false true = refl
or_false false = refl

or_assoc : (a b c : Bool) → a || (b || c) ≡ (a || b) || c
or_assoc true b c = refl
or_assoc false b c = refl

among_suc : (ids : List ℕ) (k i : ℕ) → k < length ids → among ids (suc k) i ≡ among ids k i || (get_or ids k 0 == i)
among_suc [] k i lt = absurd (omega arith)
among_suc (x ∷ xs) zero i lt = ap (λ (b : Bool). (x == i) || b) (among_none xs i) ∙ or_false (x == i)
among_suc (x ∷ xs) (suc k) i lt = ap (λ (b : Bool). (x == i) || b) (among_suc xs k i (omega arith)) ∙ or_assoc (x == i) (among xs k i) (get_or xs k 0 == i)

among_next : (ids : List ℕ) (k i : ℕ) → k < length ids → among ids (k + 1) i ≡ among ids k i || (get_or ids k 0 == i)
among_next ids k i lt = let e : k + 1 ≡ suc k = omega arith in ap (λ (n : ℕ). among ids n i) e ∙ among_suc ids k i lt

pub among-start : (ids : List ℕ) (i : ℕ) → among ids 0 i ≡ false
among-start ids i = among_none ids i

pub among-here : (ids : List ℕ) (k : ℕ) → k < length ids → among ids (k + 1) (get_or ids k 0) ≡ true
among-here ids k lt = among_next ids k (get_or ids k 0) lt ∙ ap (λ (b : Bool). among ids k (get_or ids k 0) || b) (test_same (get_or ids k 0)) ∙ or_true (among ids k (get_or ids k 0))
  where
    or_true : (b : Bool) → b || true ≡ true
    or_true true = refl
    or_true false = refl

pub among-other : (ids : List ℕ) (k i : ℕ) → k < length ids → (i ≡ get_or ids k 0 → ⊥) → among ids (k + 1) i ≡ among ids k i
among-other ids k i lt ne = among_next ids k i lt ∙ ap (λ (b : Bool). among ids k i || b) (test_other (get_or ids k 0) i (λ e. ne (sym e))) ∙ or_false (among ids k i)

among_false : (ids : List ℕ) (k i : ℕ) → ((p : ℕ) → p < k → p < length ids → get_or ids p 0 ≡ i → ⊥) → among ids k i ≡ false
among_false [] k i none = refl
among_false (x ∷ xs) zero i none = refl
among_false (x ∷ xs) (suc k) i none =
    ap (λ (b : Bool). b || among xs k i) (test_other x i (λ e. none 0 (omega arith) (omega arith) e)) ∙ among_false xs k i (λ p lt within e. none (suc p) (omega arith) (omega arith) e)

-- it does not stand before its own place
pub among-once : (ids : List ℕ) (k : ℕ) → Rises ids → k < length ids → among ids k (get_or ids k 0) ≡ false
among-once ids k h lt = among_false ids k (get_or ids k 0) (λ p less within e. let up = h p k less lt in absurd (omega (arith, up, e)))

among_true : (ids : List ℕ) (n i p : ℕ) → p < n → p < length ids → get_or ids p 0 ≡ i → among ids n i ≡ true
among_true [] n i p lt within e = absurd (omega arith)
among_true (x ∷ xs) zero i p lt within e = absurd (omega arith)
among_true (x ∷ xs) (suc n) i zero lt within e = ap (λ (b : Bool). b || among xs n i) (ap (λ (m : ℕ). m == i) e ∙ test_same i)
among_true (x ∷ xs) (suc n) i (suc p) lt within e = ap (λ (b : Bool). (x == i) || b) (among_true xs n i p (omega arith) (omega arith) e) ∙ or_true (x == i)
  where
    or_true : (b : Bool) → b || true ≡ true
    or_true true = refl
    or_true false = refl

-- all that are listed stand before the end
pub among-all : (ids : List ℕ) (n i : ℕ) → length ids ≤ n → IsListed i ids → among ids n i ≡ true
among-all ids n i le h = among_true ids n i h.0 (omega (arith, h.1, le)) h.1 h.2
