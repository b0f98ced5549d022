-- The first place at which a test holds, by recursion on the list.
use Rattle.std.proofs.Common.{◌≡◌, ℕ, zero, suc, ◌+◌, ◌<◌, ◌⊎◌, inl, inr, Bool, true, false, not, cond, nat_lt, List, [], ◌∷◌, ◌++◌, length, map, set, Option, Some, None, option_map, slice_get, position, refl, sym, ap, ◌∙◌, arith}
use Rattle.std.proofs.lemmas.Bool.Decides.{nat_tests}
use Rattle.std.specs.List.{position_or_len}

abbrev pub first : {X : Type 0} → (X → Bool) → List X → Option ℕ
first p [] = None
first p (x ∷ xs) = cond (p x) (Some 0) (option_map suc (first p xs))

up_by : (b : Bool) (n : ℕ) → cond b (Some (suc n)) None ≡ option_map suc (cond b (Some n) None)
up_by true n = refl
up_by false n = refl

below_suc : (a b : ℕ) → nat_lt (suc a) (suc b) ≡ nat_lt a b
below_suc a b = grind (arith, nat_tests)

zero_below : (n : ℕ) → nat_lt 0 (suc n) ≡ true
zero_below n = grind (arith, nat_tests)

step_by : {X : Type 0} (p : X → Bool) (xs : List X) (b : Bool) → position p xs ≡ first p xs
    → cond (nat_lt (cond (not b) (1 + position_or_len p xs) 0) (suc (length xs))) (Some (cond (not b) (1 + position_or_len p xs) 0)) None ≡ cond b (Some 0) (option_map suc (first p xs))
step_by p xs true h = ap (λ b. cond b (Some 0) None) (zero_below (length xs))
step_by p xs false h =
    let e : 1 + position_or_len p xs ≡ suc (position_or_len p xs) = omega arith in
    ap (λ k. cond (nat_lt k (suc (length xs))) (Some k) None) e ∙ ap (λ b. cond b (Some (suc (position_or_len p xs))) None) (below_suc (position_or_len p xs) (length xs))
    ∙ up_by (nat_lt (position_or_len p xs) (length xs)) (position_or_len p xs) ∙ ap (option_map suc) h

-- std's word is this recursion
pub position-first : {X : Type 0} (p : X → Bool) (xs : List X) → position p xs ≡ first p xs
position-first p [] = refl
position-first p (x ∷ xs) = step_by p xs (p x) (position-first p xs)

pub first-map : {X Y : Type 0} (p : Y → Bool) (f : X → Y) (xs : List X) → first p (map f xs) ≡ first (λ x. p (f x)) xs
first-map p f [] = refl
first-map p f (x ∷ xs) = ap (λ o. cond (p (f x)) (Some 0) (option_map suc o)) (first-map p f xs)

abbrev pub or_else : Option ℕ → Option ℕ → Option ℕ
or_else None o = o
or_else (Some i) o = Some i

later : (o : Option ℕ) (b : Bool) (n : ℕ) → option_map suc (or_else o (cond b (Some n) None)) ≡ or_else (option_map suc o) (cond b (Some (suc n)) None)
later None true n = refl
later None false n = refl
later (Some i) b n = refl

push_by : {X : Type 0} (p : X → Bool) (xs : List X) (y : X) (b : Bool) → first p (xs ++ y ∷ []) ≡ or_else (first p xs) (cond (p y) (Some (length xs)) None)
    → cond b (Some 0) (option_map suc (first p (xs ++ y ∷ []))) ≡ or_else (cond b (Some 0) (option_map suc (first p xs))) (cond (p y) (Some (suc (length xs))) None)
push_by p xs y true h = refl
push_by p xs y false h = ap (option_map suc) h ∙ later (first p xs) (p y) (length xs)

-- one more item comes last
pub first-push : {X : Type 0} (p : X → Bool) (xs : List X) (y : X) → first p (xs ++ y ∷ []) ≡ or_else (first p xs) (cond (p y) (Some (length xs)) None)
first-push p [] y = refl
first-push p (x ∷ xs) y = push_by p xs y (p x) (first-push p xs y)

suc_some : (o : Option ℕ) (i : ℕ) → option_map suc o ≡ Some (suc i) → o ≡ Some i
suc_some None i h = absurd (cc)
suc_some (Some j) i h = cc

suc_zero : (o : Option ℕ) → option_map suc o ≡ Some 0 → ⊥
suc_zero None h = cc
suc_zero (Some j) h = cc

suc_none : (o : Option ℕ) → option_map suc o ≡ None → o ≡ None
suc_none None h = refl
suc_none (Some j) h = absurd (cc)

none_by : {X : Type 0} (p : X → Bool) (x : X) (xs : List X) (b : Bool) → p x ≡ b → cond b (Some 0) (option_map suc (first p xs)) ≡ None → (p x ≡ false) × (first p xs ≡ None)
none_by p x xs true e h = absurd (cc)
none_by p x xs false e h = (e, suc_none (first p xs) h)

-- where none is found no item passes
pub first-none : {X : Type 0} (p : X → Bool) (xs : List X) → first p xs ≡ None → (i : ℕ) (x : X) → slice_get xs i ≡ Some x → p x ≡ false
first-none p [] h i x at = absurd (cc)
first-none p (y ∷ xs) h zero x at = let e : y ≡ x = cc in ap p (sym e) ∙ (none_by p y xs (p y) refl h).0
first-none p (y ∷ xs) h (suc i) x at = first-none p xs (none_by p y xs (p y) refl h).1 i x at

-- where no item passes none is found
pub none-first : {X : Type 0} (p : X → Bool) (xs : List X) → ((i : ℕ) (x : X) → slice_get xs i ≡ Some x → p x ≡ false) → first p xs ≡ None
none-first p [] h = refl
none-first p (y ∷ xs) h = ap (λ b. cond b (Some 0) (option_map suc (first p xs))) (h 0 y refl) ∙ ap (option_map suc) (none-first p xs (λ i x at. h (suc i) x at))

some_by : {X : Type 0} (p : X → Bool) (y : X) (xs : List X) (i : ℕ) (b : Bool) → p y ≡ b → cond b (Some 0) (option_map suc (first p xs)) ≡ Some i
    → ((j : ℕ) → first p xs ≡ Some j → (x : X) × (slice_get xs j ≡ Some x) × (p x ≡ true)) → (x : X) × (slice_get (y ∷ xs) i ≡ Some x) × (p x ≡ true)
some_by p y xs zero true e h rest = (y, refl, e)
some_by p y xs (suc i) true e h rest = absurd (cc)
some_by p y xs zero false e h rest = absurd (suc_zero (first p xs) h)
some_by p y xs (suc i) false e h rest = rest i (suc_some (first p xs) i h)

-- what is found passes
pub first-some : {X : Type 0} (p : X → Bool) (xs : List X) (i : ℕ) → first p xs ≡ Some i → (x : X) × (slice_get xs i ≡ Some x) × (p x ≡ true)
first-some p [] i h = absurd (cc)
first-some p (y ∷ xs) i h = some_by p y xs i (p y) refl h (λ j. first-some p xs j)

-- ---- items by place

pub get-front : {X : Type 0} (xs : List X) (y : X) (i : ℕ) (x : X) → slice_get xs i ≡ Some x → slice_get (xs ++ y ∷ []) i ≡ Some x
get-front [] y i x h = absurd (cc)
get-front (z ∷ xs) y zero x h = h
get-front (z ∷ xs) y (suc i) x h = get-front xs y i x h

pub get-last : {X : Type 0} (xs : List X) (y : X) → slice_get (xs ++ y ∷ []) (length xs) ≡ Some y
get-last [] y = refl
get-last (z ∷ xs) y = get-last xs y

pub get-push : {X : Type 0} (xs : List X) (y : X) (i : ℕ) (x : X) → slice_get (xs ++ y ∷ []) i ≡ Some x → (slice_get xs i ≡ Some x) ⊎ ((i ≡ length xs) × (x ≡ y))
get-push [] y zero x h = inr (refl, cc)
get-push [] y (suc i) x h = absurd (cc)
get-push (z ∷ xs) y zero x h = inl h
get-push (z ∷ xs) y (suc i) x h = elim (get-push xs y i x h) [ inl a ↦ inl a | inr b ↦ inr (ap suc b.0, b.1) ]

pub get-set : {X : Type 0} (xs : List X) (k : ℕ) (v : X) (i : ℕ) (x : X) → slice_get (set xs k v) i ≡ Some x → ((i ≡ k) × (x ≡ v)) ⊎ ((i ≡ k → ⊥) × (slice_get xs i ≡ Some x))
get-set [] k v i x h = absurd (cc)
get-set (z ∷ xs) zero v zero x h = inl (refl, cc)
get-set (z ∷ xs) zero v (suc i) x h = inr (λ e. absurd (omega arith), h)
get-set (z ∷ xs) (suc k) v zero x h = inr (λ e. absurd (omega arith), h)
get-set (z ∷ xs) (suc k) v (suc i) x h = elim (get-set xs k v i x h) [ inl a ↦ inl (ap suc a.0, a.1) | inr b ↦ inr (λ e. b.0 (omega arith), b.1) ]

pub get-within : {X : Type 0} (xs : List X) (i : ℕ) → i < length xs → (x : X) × (slice_get xs i ≡ Some x)
get-within [] i h = absurd (omega arith)
get-within (x ∷ xs) zero h = (x, refl)
get-within (x ∷ xs) (suc i) h = get-within xs i (omega arith)
