-- Items of lists by their places, and the first place at which a test holds.
use Rattle.std.proofs.Common.{◌≡◌, ◌≢◌, ℕ, zero, suc, ◌+◌, ◌-◌, ◌<◌, ◌⊎◌, inl, inr, Bool, true, false, not, cond, nat_lt, List, [], ◌∷◌, ◌++◌, length, map, set, Option, Some, None, option_map, slice_get, position, refl, sym, ap, ◌∙◌, arith, length-append}
use Rattle.std.proofs.lemmas.Bool.Decides.{nat_tests}
use Rattle.std.specs.List.{position_or_len}
use Rattle.std.proofs.lemmas.Option.{slice_get_within}
use Rattle.std.specs.Option.{option_map_or}

-- ---- items by place

pub get-front : {X : Type 0} (xs : List X) (y : X) (i : ℕ) (x : X) → slice_get xs i ≡ Some x → slice_get (xs ++ y ∷ []) i ≡ Some x
get-front [] y i x h = absurd (cc)
get-front (z ∷ xs) y zero x h = h
get-front (z ∷ xs) y (suc i) x h = get-front xs y i x h

pub get-last : {X : Type 0} (xs : List X) (y : X) → slice_get (xs ++ y ∷ []) (length xs) ≡ Some y
get-last [] y = refl
get-last (z ∷ xs) y = get-last xs y

pub get-push : {X : Type 0} (xs : List X) (y : X) (i : ℕ) (x : X) → slice_get (xs ++ y ∷ []) i ≡ Some x → (slice_get xs i ≡ Some x) ⊎ ((i ≡ length xs) × (x ≡ y))
get-push [] y zero x h = inr (refl, cc)
get-push [] y (suc i) x h = absurd (cc)
get-push (z ∷ xs) y zero x h = inl h
get-push (z ∷ xs) y (suc i) x h = elim (get-push xs y i x h) [ inl a ↦ inl a | inr b ↦ inr (ap suc b.0, b.1) ]

pub get-set : {X : Type 0} (xs : List X) (k : ℕ) (v : X) (i : ℕ) (x : X) → slice_get (set xs k v) i ≡ Some x → ((i ≡ k) × (x ≡ v)) ⊎ ((i ≡ k → ⊥) × (slice_get xs i ≡ Some x))
get-set [] k v i x h = absurd (cc)
get-set (z ∷ xs) zero v zero x h = inl (refl, cc)
get-set (z ∷ xs) zero v (suc i) x h = inr (λ e. absurd (omega arith), h)
get-set (z ∷ xs) (suc k) v zero x h = inr (λ e. absurd (omega arith), h)
get-set (z ∷ xs) (suc k) v (suc i) x h = elim (get-set xs k v i x h) [ inl a ↦ inl (ap suc a.0, a.1) | inr b ↦ inr (λ e. b.0 (omega arith), b.1) ]

pub get-set_same : {X : Type 0} (xs : List X) (k : ℕ) (v x : X) → slice_get xs k ≡ Some x → slice_get (set xs k v) k ≡ Some v
get-set_same [] k v x h = absurd (cc)
get-set_same (z ∷ xs) zero v x h = refl
get-set_same (z ∷ xs) (suc k) v x h = get-set_same xs k v x h

pub get-set_other : {X : Type 0} (xs : List X) (k : ℕ) (v : X) (i : ℕ) → i ≢ k → slice_get (set xs k v) i ≡ slice_get xs i
get-set_other [] k v i h = refl
get-set_other (z ∷ xs) zero v zero h = absurd (h refl)
get-set_other (z ∷ xs) zero v (suc i) h = refl
get-set_other (z ∷ xs) (suc k) v zero h = refl
get-set_other (z ∷ xs) (suc k) v (suc i) h = get-set_other xs k v i (λ e. h (ap suc e))

pub get-within : {X : Type 0} (xs : List X) (i : ℕ) → i < length xs → (x : X) × (slice_get xs i ≡ Some x)
get-within [] i h = absurd (omega arith)
get-within (x ∷ xs) zero h = (x, refl)
get-within (x ∷ xs) (suc i) h = get-within xs i (omega arith)

pub get-map : {X Y : Type 0} (f : X → Y) (xs : List X) (i : ℕ) (y : Y) → slice_get (map f xs) i ≡ Some y → (x : X) × (slice_get xs i ≡ Some x) × (y ≡ f x)
get-map f [] i y h = absurd (cc)
get-map f (x ∷ xs) zero y h = (x, refl, cc)
get-map f (x ∷ xs) (suc i) y h = get-map f xs i y h

-- ---- the last item

front_by : {X : Type 0} (xs : List X) (n : ℕ) (x : X) → n + 1 ≡ length xs → slice_get xs n ≡ Some x → (front : List X) × (xs ≡ front ++ x ∷ [])
front_by [] n x e at = absurd (cc)
front_by (y ∷ []) zero x e at = ([], ap (λ z. z ∷ []) (cc))
front_by (y ∷ []) (suc n) x e at = absurd (cc)
front_by (y ∷ z ∷ zs) zero x e at = absurd (omega arith)
front_by (y ∷ z ∷ zs) (suc n) x e at = let h = front_by (z ∷ zs) n x (omega arith) at in (y ∷ h.0, ap (λ l. y ∷ l) h.1)

pub has-front : {X : Type 0} (xs : List X) (x : X) → slice_get xs (length xs - 1) ≡ Some x → (front : List X) × (xs ≡ front ++ x ∷ [])
has-front xs x at = let lt = slice_get_within xs (length xs - 1) x at in front_by xs (length xs - 1) x (omega arith) at

pub no-last : {X : Type 0} (xs : List X) → slice_get xs (length xs - 1) ≡ None → xs ≡ []
no-last [] at = refl
no-last (x ∷ xs) at = let h = get-within (x ∷ xs) (suc (length xs) - 1) (omega arith) in let e : None ≡ Some h.0 = sym at ∙ h.1 in absurd (cc)

pub same-last : {X : Type 0} (xs front : List X) (x y : X) → slice_get xs (length xs - 1) ≡ Some x → xs ≡ front ++ y ∷ [] → y ≡ x
same-last xs front x y at e =
    let n : length xs - 1 ≡ length front = omega (arith, ap length e, length-append front (y ∷ [])) in
    let s : Some y ≡ Some x = sym (get-last front y) ∙ ap (λ l. slice_get l (length front)) (sym e) ∙ ap (slice_get xs) (sym n) ∙ at in
    cc

-- ---- the first place, by recursion on the list

abbrev pub first : {X : Type 0} → (X → Bool) → List X → Option ℕ
first p [] = None
first p (x ∷ xs) = cond (p x) (Some 0) (option_map suc (first p xs))

up_by : (b : Bool) (n : ℕ) → cond b (Some (suc n)) None ≡ option_map suc (cond b (Some n) None)
up_by true n = refl
up_by false n = refl

below_suc : (a b : ℕ) → nat_lt (suc a) (suc b) ≡ nat_lt a b
below_suc a b = grind (arith, nat_tests)

zero_below : (n : ℕ) → nat_lt 0 (suc n) ≡ true
zero_below n = grind (arith, nat_tests)

step_by : {X : Type 0} (p : X → Bool) (xs : List X) (b : Bool) → position p xs ≡ first p xs
    → cond (nat_lt (cond (not b) (1 + position_or_len p xs) 0) (suc (length xs))) (Some (cond (not b) (1 + position_or_len p xs) 0)) None ≡ cond b (Some 0) (option_map suc (first p xs))
step_by p xs true h = ap (λ b. cond b (Some 0) None) (zero_below (length xs))
step_by p xs false h =
    let e : 1 + position_or_len p xs ≡ suc (position_or_len p xs) = omega arith in
    ap (λ k. cond (nat_lt k (suc (length xs))) (Some k) None) e ∙ ap (λ b. cond b (Some (suc (position_or_len p xs))) None) (below_suc (position_or_len p xs) (length xs))
    ∙ up_by (nat_lt (position_or_len p xs) (length xs)) (position_or_len p xs) ∙ ap (option_map suc) h

position-first : {X : Type 0} (p : X → Bool) (xs : List X) → position p xs ≡ first p xs
position-first p [] = refl
position-first p (x ∷ xs) = step_by p xs (p x) (position-first p xs)

none_first : {X : Type 0} (p : X → Bool) (xs : List X) → ((i : ℕ) (x : X) → slice_get xs i ≡ Some x → p x ≡ false) → first p xs ≡ None
none_first p [] h = refl
none_first p (y ∷ xs) h = ap (λ b. cond b (Some 0) (option_map suc (first p xs))) (h 0 y refl) ∙ ap (option_map suc) (none_first p xs (λ i x at. h (suc i) x at))

suc_none : (o : Option ℕ) → option_map suc o ≡ None → o ≡ None
suc_none None h = refl
suc_none (Some j) h = absurd (cc)

none_by : {X : Type 0} (p : X → Bool) (x : X) (xs : List X) (b : Bool) → p x ≡ b → cond b (Some 0) (option_map suc (first p xs)) ≡ None → (p x ≡ false) × (first p xs ≡ None)
none_by p x xs true e h = absurd (cc)
none_by p x xs false e h = (e, suc_none (first p xs) h)

first_none : {X : Type 0} (p : X → Bool) (xs : List X) → first p xs ≡ None → (i : ℕ) (x : X) → slice_get xs i ≡ Some x → p x ≡ false
first_none p [] h i x at = absurd (cc)
first_none p (y ∷ xs) h zero x at = let e : y ≡ x = cc in ap p (sym e) ∙ (none_by p y xs (p y) refl h).0
first_none p (y ∷ xs) h (suc i) x at = first_none p xs (none_by p y xs (p y) refl h).1 i x at

at_first : {X : Type 0} (p : X → Bool) (xs : List X) (i : ℕ) (x : X) → slice_get xs i ≡ Some x → p x ≡ true → ((k : ℕ) (y : X) → k < i → slice_get xs k ≡ Some y → p y ≡ false) → first p xs ≡ Some i
at_first p [] i x at h before = absurd (cc)
at_first p (y ∷ xs) zero x at h before = let e : y ≡ x = cc in ap (λ b. cond b (Some 0) (option_map suc (first p xs))) (ap p e ∙ h)
at_first p (y ∷ xs) (suc i) x at h before =
    ap (λ b. cond b (Some 0) (option_map suc (first p xs))) (before 0 y (omega arith) refl)
    ∙ ap (option_map suc) (at_first p xs i x at h (λ k z lt there. before (suc k) z (omega arith) there))

-- no item passes
pub position-none : {X : Type 0} (p : X → Bool) (xs : List X) → ((i : ℕ) (x : X) → slice_get xs i ≡ Some x → p x ≡ false) → position p xs ≡ None
position-none p xs h = position-first p xs ∙ none_first p xs h

pub none-position : {X : Type 0} (p : X → Bool) (xs : List X) → position p xs ≡ None → (i : ℕ) (x : X) → slice_get xs i ≡ Some x → p x ≡ false
none-position p xs h = first_none p xs (sym (position-first p xs) ∙ h)

-- an item passes, and none before it
pub position-at : {X : Type 0} (p : X → Bool) (xs : List X) (i : ℕ) (x : X) → slice_get xs i ≡ Some x → p x ≡ true → ((k : ℕ) (y : X) → k < i → slice_get xs k ≡ Some y → p y ≡ false) → position p xs ≡ Some i
position-at p xs i x at h before = position-first p xs ∙ at_first p xs i x at h before

-- ---- tests place by place

-- Whether the item at a place passes.
abbrev pub passes : {X : Type 0} → (X → Bool) → List X → ℕ → Bool
passes p xs i = option_map_or p (slice_get xs i) false

none_pass : {X : Type 0} (p : X → Bool) (xs : List X) → ((i : ℕ) → passes p xs i ≡ false) → first p xs ≡ None
none_pass p [] h = refl
none_pass p (x ∷ xs) h = ap (λ b. cond b (Some 0) (option_map suc (first p xs))) (h 0) ∙ ap (option_map suc) (none_pass p xs (λ i. h (suc i)))

agree : {X Y : Type 0} (p : X → Bool) (q : Y → Bool) (xs : List X) (ys : List Y) → ((i : ℕ) → passes p xs i ≡ passes q ys i) → first p xs ≡ first q ys
agree p q [] [] h = refl
agree p q [] (y ∷ ys) h = sym (none_pass q (y ∷ ys) (λ i. sym (h i)))
agree p q (x ∷ xs) [] h = none_pass p (x ∷ xs) h
agree p q (x ∷ xs) (y ∷ ys) h = ap (λ b. cond b (Some 0) (option_map suc (first p xs))) (h 0) ∙ ap (λ o. cond (q y) (Some 0) (option_map suc o)) (agree p q xs ys (λ i. h (suc i)))

-- tests that agree at each place find the same one
pub position-agree : {X Y : Type 0} (p : X → Bool) (q : Y → Bool) (xs : List X) (ys : List Y) → ((i : ℕ) → passes p xs i ≡ passes q ys i) → position p xs ≡ position q ys
position-agree p q xs ys h = position-first p xs ∙ agree p q xs ys h ∙ sym (position-first q ys)

pub passes-push : {X : Type 0} (p : X → Bool) (xs : List X) (y : X) → p y ≡ false → (i : ℕ) → passes p (xs ++ y ∷ []) i ≡ passes p xs i
passes-push p [] y h zero = h
passes-push p [] y h (suc i) = refl
passes-push p (x ∷ xs) y h zero = refl
passes-push p (x ∷ xs) y h (suc i) = passes-push p xs y h i

pub passes-set : {X : Type 0} (p : X → Bool) (xs : List X) (k : ℕ) (x y : X) → slice_get xs k ≡ Some x → p y ≡ p x → (i : ℕ) → passes p (set xs k y) i ≡ passes p xs i
passes-set p [] k x y at h i = refl
passes-set p (z ∷ xs) zero x y at h zero = let e : z ≡ x = cc in h ∙ ap p (sym e)
passes-set p (z ∷ xs) zero x y at h (suc i) = refl
passes-set p (z ∷ xs) (suc k) x y at h zero = refl
passes-set p (z ∷ xs) (suc k) x y at h (suc i) = passes-set p xs k x y at h i
