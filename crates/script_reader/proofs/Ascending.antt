-- Ascending lists of numbers: they are told apart by what they contain.
use Rattle.std.proofs.Common.{◌≡◌, ℕ, zero, suc, ◌+◌, ◌<◌, ◌≤◌, Bool, true, false, ◌⊎◌, inl, inr, List, [], ◌∷◌, ◌++◌, length, get_or, arith, refl, sym, subst, ⊎_elim, append-nil}
use Rattle.std.specs.Prelude.{◌↔◌, nat_eq, if◌then◌else◌}
use Rattle.std.specs.Cmp.{nat_eq_equiv}
use Rattle.std.specs.List.{Contains, list_any}
use Rattle.std.specs.List.Sorted.{IsStrictlyIncreasing}
use Rattle.std.proofs.lemmas.Bool.{cases_eq, eqb-true}
use Rattle.std.proofs.lemmas.List.Elements.{Contains-append_left, Contains-push, Contains-push_cases}
use Rattle.std.proofs.lemmas.Map.Views.{list_any-from_Contains, Contains-from_any}
use Rattle.script_reader.specs.Reader.{ascending}

-- Each number is at least the first and above the one before it.
pub Rises : ℕ → List ℕ → Type 0
Rises low [] = Unit {0}
Rises low (x ∷ xs) = (low ≤ x) × Rises (x + 1) xs

-- ---- members
none_in : (x : ℕ) → Contains [] x → ⊥
none_in x h = let l : h.0 < 0 = h.1 in omega (arith, l)

in_cons : (y : ℕ) (ys : List ℕ) (x : ℕ) → Contains (y ∷ ys) x → (y ≡ x) ⊎ Contains ys x
in_cons y ys x h = by h.0 h.1 h.2 where
  by : (k : ℕ) → k < length (y ∷ ys) → get_or (y ∷ ys) k x ≡ x → (y ≡ x) ⊎ Contains ys x
  by zero l e = inl e
  by (suc k) l e = inr (k, omega (arith, l), e)

first_in : (y : ℕ) (ys : List ℕ) → Contains (y ∷ ys) y
first_in y ys = (0, omega arith, refl)

later_in : (y : ℕ) (ys : List ℕ) (x : ℕ) → Contains ys x → Contains (y ∷ ys) x
later_in y ys x h = (suc h.0, omega (arith, h.1), h.2)

at_least : (low : ℕ) (xs : List ℕ) (x : ℕ) → Rises low xs → Contains xs x → low ≤ x
unfolding Rises
at_least low [] x rises h = absurd (none_in x h)
at_least low (y ∷ ys) x rises h = ⊎_elim
    (λ same. omega (arith, rises.0, same))
    (λ later. omega (arith, rises.0, at_least (y + 1) ys x rises.1 later))
    (in_cons y ys x h)

-- ---- two of them
same_first : (low x y : ℕ) (xs ys : List ℕ) → Rises low (x ∷ xs) → Rises low (y ∷ ys) → Contains (y ∷ ys) x → Contains (x ∷ xs) y → x ≡ y
unfolding Rises
same_first low x y xs ys one other in_other in_one = ⊎_elim
    (λ same. sym same)
    (λ behind. ⊎_elim
    (λ same. same)
    (λ below. absurd (omega (arith, at_least (y + 1) ys x other.1 behind, at_least (x + 1) xs y one.1 below)))
    (in_cons x xs y in_one))
    (in_cons y ys x in_other)

pub same_rising : (low : ℕ) (xs ys : List ℕ) → Rises low xs → Rises low ys → ((k : ℕ) → Contains xs k ↔ Contains ys k) → xs ≡ ys
unfolding Rises
same_rising low [] [] one other same = refl
same_rising low [] (y ∷ ys) one other same = absurd (none_in y ((same y).1 (first_in y ys)))
same_rising low (x ∷ xs) [] one other same = absurd (none_in x ((same x).0 (first_in x xs)))
same_rising low (x ∷ xs) (y ∷ ys) one other same =
    let first = same_first low x y xs ys one other ((same x).0 (first_in x xs)) ((same y).1 (first_in y ys)) in
    let behind : Rises (x + 1) ys = subst (λ z. Rises (z + 1) ys) (sym first) other.1 in
    let rest = same_rising (x + 1) xs ys one.1 behind (λ k. (
      λ h. ⊎_elim (λ e. absurd (omega (arith, at_least (x + 1) xs k one.1 h, first, e))) (λ later. later) (in_cons y ys k ((same k).0 (later_in x xs k h))),
      λ h. ⊎_elim (λ e. absurd (omega (arith, at_least (x + 1) ys k behind h, e))) (λ later. later) (in_cons x xs k ((same k).1 (later_in y ys k h))),
    )) in
    λ i. first i ∷ rest i

-- ---- in the library's words
more_one : (k : ℕ) → suc k + 1 ≡ suc (k + 1)
more_one k = omega arith

rises_behind : (x : ℕ) (xs : List ℕ) → IsStrictlyIncreasing (x ∷ xs) → Rises (x + 1) xs
unfolding Rises
rises_behind x [] up = tt
rises_behind x (y ∷ ys) up =
    let first : x < y = up 0 (omega arith) in (
      omega (arith, first),
      rises_behind y ys (λ k l.
          subst (λ n. get_or (y ∷ ys) k 0 < get_or (x ∷ y ∷ ys) n 0) (more_one k) (up (suc k) (omega (arith, l)))),
    )

pub Rises-from_increasing : (xs : List ℕ) → IsStrictlyIncreasing xs → Rises 0 xs
unfolding Rises
Rises-from_increasing [] up = tt
Rises-from_increasing (x ∷ xs) up = (omega arith, rises_behind x xs up)

increasing_cons : (x y : ℕ) (ys : List ℕ) → x + 1 ≤ y → IsStrictlyIncreasing (y ∷ ys) → IsStrictlyIncreasing (x ∷ y ∷ ys)
increasing_cons x y ys first up = by where
  by : (k : ℕ) → k + 1 < length (x ∷ y ∷ ys) → get_or (x ∷ y ∷ ys) k 0 < get_or (x ∷ y ∷ ys) (k + 1) 0
  by zero l = omega (arith, first)
  by (suc k) l =
      subst (λ n. get_or (y ∷ ys) k 0 < get_or (x ∷ y ∷ ys) n 0) (sym (more_one k))
      (up k (omega (arith, l)))

pub increasing_from_Rises : (low : ℕ) (xs : List ℕ) → Rises low xs → IsStrictlyIncreasing xs
unfolding Rises
increasing_from_Rises low [] rises = λ k l. absurd (omega (arith, l))
increasing_from_Rises low (x ∷ []) rises = λ k l. absurd (omega (arith, l))
increasing_from_Rises low (x ∷ y ∷ ys) rises = increasing_cons x y ys rises.1.0 (increasing_from_Rises (x + 1) (y ∷ ys) rises.1)

rises_push : (low : ℕ) (xs : List ℕ) (n : ℕ) → Rises low xs → low ≤ n → ((k : ℕ) → Contains xs k → k < n) → Rises low (xs ++ n ∷ [])
unfolding Rises
rises_push low [] n rises small below = (small, tt)
rises_push low (x ∷ xs) n rises small below =
    (rises.0, rises_push (x + 1) xs n rises.1 (omega (arith, below x (first_in x xs))) (λ k h. below k (later_in x xs k h)))

-- ---- the numbers below a bound that stand in a list
any_in : (list : List ℕ) (n : ℕ) → list_any (nat_eq n) list ≡ true → Contains list n
any_in list n e = Contains-from_any {eq = nat_eq} eqb-true n list e

in_any : (list : List ℕ) (n : ℕ) → Contains list n → list_any (nat_eq n) list ≡ true
in_any list n h = list_any-from_Contains {eq = nat_eq} nat_eq_equiv n list h

pub in_ascending : (list : List ℕ) (bound k : ℕ) → Contains (ascending list bound) k → (k < bound) × Contains list k
in_ascending list zero k h = absurd (none_in k h)
in_ascending list (suc bound) k h = by (in_ascending list bound k) (list_any (nat_eq bound) list) refl h where
  by : (Contains (ascending list bound) k → (k < bound) × Contains list k) → (has : Bool) → list_any (nat_eq bound) list ≡ has → Contains (ascending list bound ++ (if has then bound ∷ [] else [])) k → (k < suc bound) × Contains list k
  by rest true e h = ⊎_elim
      (λ before. let at = rest before in (omega (arith, at.0), at.1))
      (λ same. (omega (arith, same), subst (λ n. Contains list n) same (any_in list bound e)))
      (Contains-push_cases (ascending list bound) bound k h)
  by rest false e h =
      let before : Contains (ascending list bound) k = subst (λ xs. Contains xs k) (append-nil (ascending list bound)) h in
      let at = rest before in
      (omega (arith, at.0), at.1)

pub ascending_has : (list : List ℕ) (bound k : ℕ) → k < bound → Contains list k → Contains (ascending list bound) k
ascending_has list zero k below h = absurd (omega (arith, below))
ascending_has list (suc bound) k below h = ⊎_elim
    (λ same.
    let has : list_any (nat_eq bound) list ≡ true = in_any list bound (subst (λ n. Contains list n) same h) in
    subst (λ b. Contains (ascending list bound ++ (if b then bound ∷ [] else [])) k) (sym has)
    (subst (λ n. Contains (ascending list bound ++ bound ∷ []) n) (sym same) (Contains-push (ascending list bound) bound)))
    (λ other. Contains-append_left (ascending list bound) _ k (ascending_has list bound k (omega (arith, below, other)) h))
    (cases_eq k bound)

pub ascending_rises : (list : List ℕ) (bound : ℕ) → Rises 0 (ascending list bound)
unfolding Rises
ascending_rises list zero = tt
ascending_rises list (suc bound) = by (ascending_rises list bound) (list_any (nat_eq bound) list) where
  by : Rises 0 (ascending list bound) → (has : Bool) → Rises 0 (ascending list bound ++ (if has then bound ∷ [] else []))
  by rest true = rises_push 0 (ascending list bound) bound rest (omega arith) (λ k h. (in_ascending list bound k h).0)
  by rest false = subst (Rises 0) (sym (append-nil (ascending list bound))) rest

-- A list that ascends and contains what another one does, all below the bound, is the ascending one.
pub is_ascending : (xs list : List ℕ) (bound : ℕ) → Rises 0 xs → ((k : ℕ) → Contains xs k → (k < bound) × Contains list k) → ((k : ℕ) → Contains list k → Contains xs k) → xs ≡ ascending list bound
is_ascending xs list bound rises from to = same_rising 0 xs (ascending list bound) rises (ascending_rises list bound) (λ k. (
  λ h. let at = from k h in ascending_has list bound k at.0 at.1,
  λ h. to k (in_ascending list bound k h).1,
))
