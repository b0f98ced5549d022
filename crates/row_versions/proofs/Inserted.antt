-- One place more among those of the versions that ended, at the end of those whose ends are at most its own.
use Rattle.std.proofs.Common.{◌≡◌, ◌≢◌, ℕ, zero, suc, ◌+◌, ◌<◌, ◌≤◌, ◌⊎◌, inl, inr, List, [], ◌∷◌, ◌++◌, length, take, drop, set, Some, None, slice_get, refl, sym, ap, subst, ◌∙◌, arith}
use Rattle.row_versions.specs.declared.version.Version.{Version}
use Rattle.row_versions.specs.History.{ended}
use Rattle.row_versions.specs.Inside.{HasEnd, AreEnded, SplitsEnds}
use Rattle.row_versions.proofs.Places.{get-set, get-set_same, get-set_other}
use Rattle.row_versions.proofs.EndPlaces.{count-end}

abbrev with_place : ℕ → ℕ → List ℕ → List ℕ
with_place at x ps = take at ps ++ (x ∷ drop at ps)

-- where an item stands that stood at a place before
abbrev Moves : ℕ → ℕ → ℕ → Type 0
Moves at i j = ((i < at) × (j ≡ i)) ⊎ ((at ≤ i) × (j ≡ suc i))

up : (at i j : ℕ) → Moves at i j → Moves (suc at) (suc i) (suc j)
up at i j (inl h) = inl (omega arith, ap suc h.1)
up at i j (inr h) = inr (omega arith, ap suc h.1)

get_with : (at x : ℕ) (ps : List ℕ) → at ≤ length ps → (j y : ℕ) → slice_get (with_place at x ps) j ≡ Some y → ((j ≡ at) × (y ≡ x)) ⊎ ((i : ℕ) × (slice_get ps i ≡ Some y) × Moves at i j)
get_with zero x ps le zero y at = inl (refl, cc)
get_with zero x ps le (suc j) y at = inr (j, at, inr (omega arith, refl))
get_with (suc n) x [] le j y at = absurd (omega arith)
get_with (suc n) x (p ∷ ps) le zero y at = inr (0, at, inl (omega arith, refl))
get_with (suc n) x (p ∷ ps) le (suc j) y at = elim (get_with n x ps (omega arith) j y at) [
  | inl here ↦ inl (ap suc here.0, here.1)
  | inr else ↦ inr (suc else.0, else.1, up n else.0 j else.2)
]

with_get : (at x : ℕ) (ps : List ℕ) → at ≤ length ps → (i y : ℕ) → slice_get ps i ≡ Some y → (j : ℕ) × (slice_get (with_place at x ps) j ≡ Some y)
with_get zero x ps le i y at = (suc i, at)
with_get (suc n) x [] le i y at = absurd (cc)
with_get (suc n) x (p ∷ ps) le zero y at = (0, at)
with_get (suc n) x (p ∷ ps) le (suc i) y at = let h = with_get n x ps (omega arith) i y at in (suc h.0, h.1)

with_here : (at x : ℕ) (ps : List ℕ) → at ≤ length ps → slice_get (with_place at x ps) at ≡ Some x
with_here zero x ps le = refl
with_here (suc n) x [] le = absurd (omega arith)
with_here (suc n) x (p ∷ ps) le = with_here n x ps (omega arith)

with_length : (at x : ℕ) (ps : List ℕ) → at ≤ length ps → length (with_place at x ps) ≡ length ps + 1
with_length zero x ps le = omega arith
with_length (suc n) x [] le = absurd (omega arith)
with_length (suc n) x (p ∷ ps) le = let h = with_length n x ps (omega arith) in omega arith

one_from : (at i k l : ℕ) → Moves at i k → Moves at i l → k ≡ l
one_from at i k l (inl a) (inl b) = a.1 ∙ sym b.1
one_from at i k l (inl a) (inr b) = absurd (omega (arith, a.0, b.0))
one_from at i k l (inr a) (inl b) = absurd (omega (arith, a.0, b.0))
one_from at i k l (inr a) (inr b) = a.1 ∙ sym b.1

in_order : (at i j k l : ℕ) → Moves at i k → Moves at j l → k < l → i < j
in_order at i j k l (inl a) (inl b) lt = omega (arith, a.1, b.1)
in_order at i j k l (inl a) (inr b) lt = omega (arith, a.0, b.0)
in_order at i j k l (inr a) (inl b) lt = absurd (omega (arith, a.0, a.1, b.0, b.1))
in_order at i j k l (inr a) (inr b) lt = omega (arith, a.1, b.1)

after_it : (at i k : ℕ) → Moves at i k → at < k → at ≤ i
after_it at i k (inl a) lt = absurd (omega (arith, a.0, a.1))
after_it at i k (inr a) lt = a.0

before_it : (at i k : ℕ) → Moves at i k → k < at → i < at
before_it at i k (inl a) lt = a.0
before_it at i k (inr a) lt = absurd (omega (arith, a.0, a.1))

module _ (xs : List Version) (ps : List ℕ) (k commit at : ℕ) (v : Version) (there : slice_get xs k ≡ Some v) (none : v.end ≡ None) (a : AreEnded xs ps) (s : SplitsEnds commit xs ps at) where
  unlike : (p e : ℕ) → HasEnd xs p e → p ≢ k
  unlike p e h is = let same : Some h.version ≡ Some v = sym h.there ∙ ap (slice_get xs) is ∙ there in let own : h.version ≡ v = cc in let impossible : None ≡ Some e = sym none ∙ ap (λ (u : Version). u.end) (sym own) ∙ h.at in absurd (cc)

  forward : (p e : ℕ) → HasEnd xs p e → HasEnd (set xs k (ended commit v)) p e
  forward p e h = record { version = h.version; there = get-set_other xs k (ended commit v) p (unlike p e h) ∙ h.there; at = h.at }

  here : HasEnd (set xs k (ended commit v)) k commit
  here = record { version = ended commit v; there = get-set_same xs k (ended commit v) v there; at = refl }

  back : (p e : ℕ) → HasEnd (set xs k (ended commit v)) p e → ((p ≡ k) × (e ≡ commit)) ⊎ ((p ≡ k → ⊥) × HasEnd xs p e)
  back p e h = elim (get-set xs k (ended commit v) p h.version h.there) [
    | inl is ↦ inl (is.0, let same : Some commit ≡ Some e = ap (λ (u : Version). u.end) (sym is.1) ∙ h.at in cc)
    | inr ne ↦ inr (ne.0, record { version = h.version; there = ne.1; at = h.at })
  ]

  back_here : (e : ℕ) → HasEnd (set xs k (ended commit v)) k e → e ≡ commit
  back_here e h = elim (back k e h) [ inl is ↦ is.1 | inr ne ↦ absurd (ne.0 refl) ]

  back_other : (p e : ℕ) → p ≢ k → HasEnd (set xs k (ended commit v)) p e → HasEnd xs p e
  back_other p e other h = elim (back p e h) [ inl is ↦ absurd (other is.0) | inr ne ↦ ne.1 ]

  not_there : (i p : ℕ) → slice_get ps i ≡ Some p → p ≢ k
  not_there i p found = let h = a.each i p found in unlike p h.0 h.1

  each_by : (p : ℕ) (j : ℕ) → ((j ≡ at) × (p ≡ k)) ⊎ ((i : ℕ) × (slice_get ps i ≡ Some p) × Moves at i j) → (e : ℕ) × HasEnd (set xs k (ended commit v)) p e
  each_by p j (inl new) = (commit, subst (λ z. HasEnd (set xs k (ended commit v)) z commit) (sym new.1) here)
  each_by p j (inr old) = let h = a.each old.0 p old.1 in (h.0, forward p h.0 h.1)

  all_by : (p e : ℕ) → ((p ≡ k) × (e ≡ commit)) ⊎ ((p ≡ k → ⊥) × HasEnd xs p e) → (j : ℕ) × (slice_get (with_place at k ps) j ≡ Some p)
  all_by p e (inl is) = (at, with_here at k ps s.within ∙ ap (λ z. Some z) (sym is.0))
  all_by p e (inr ne) = let h = ne.1 in let i = a.all p h.version e h.there h.at in with_get at k ps s.within i.0 p i.1

  once_by : (j l p : ℕ) → ((j ≡ at) × (p ≡ k)) ⊎ ((i : ℕ) × (slice_get ps i ≡ Some p) × Moves at i j) → ((l ≡ at) × (p ≡ k)) ⊎ ((i : ℕ) × (slice_get ps i ≡ Some p) × Moves at i l) → j ≡ l
  once_by j l p (inl x) (inl y) = x.0 ∙ sym y.0
  once_by j l p (inl x) (inr y) = absurd (not_there y.0 p y.1 x.1)
  once_by j l p (inr x) (inl y) = absurd (not_there x.0 p x.1 y.1)
  once_by j l p (inr x) (inr y) = one_from at x.0 j l x.2 (subst (λ i. Moves at i l) (a.once y.0 x.0 p y.1 x.1) y.2)

  rise_by : (j l p q e f : ℕ) → j < l → ((j ≡ at) × (p ≡ k)) ⊎ ((i : ℕ) × (slice_get ps i ≡ Some p) × Moves at i j) → ((l ≡ at) × (q ≡ k)) ⊎ ((i : ℕ) × (slice_get ps i ≡ Some q) × Moves at i l)
      → HasEnd (set xs k (ended commit v)) p e → HasEnd (set xs k (ended commit v)) q f → e ≤ f
  rise_by j l p q e f lt (inl x) (inl y) h g = absurd (omega (arith, x.0, y.0))
  rise_by j l p q e f lt (inl x) (inr y) h g =
      let own = back_here e (subst (λ z. HasEnd (set xs k (ended commit v)) z e) x.1 h) in
      let above = s.high y.0 q f (after_it at y.0 l y.2 (omega (arith, x.0))) y.1 (back_other q f (not_there y.0 q y.1) g) in
      omega arith
  rise_by j l p q e f lt (inr x) (inl y) h g =
      let own = back_here f (subst (λ z. HasEnd (set xs k (ended commit v)) z f) y.1 g) in
      let under = s.low x.0 p e (before_it at x.0 j x.2 (omega (arith, y.0))) x.1 (back_other p e (not_there x.0 p x.1) h) in
      omega arith
  rise_by j l p q e f lt (inr x) (inr y) h g = a.rise x.0 y.0 p q e f (in_order at x.0 y.0 j l x.2 y.2 lt) x.1 y.1 (back_other p e (not_there x.0 p x.1) h) (back_other q f (not_there y.0 q y.1) g)

  pub ended-insert : AreEnded (set xs k (ended commit v)) (take at ps ++ (k ∷ drop at ps))
  ended-insert = record {
    each = λ j p found. each_by p j (get_with at k ps s.within j p found);
    all = λ p w e found end. all_by p e (back p e (record { version = w; there = found; at = end }));
    once = λ j l p x y. once_by j l p (get_with at k ps s.within j p x) (get_with at k ps s.within l p y);
    rise = λ j l p q e f lt x y h g. rise_by j l p q e f lt (get_with at k ps s.within j p x) (get_with at k ps s.within l q y) h g;
    counted = let c = a.counted in omega (arith, count-end xs k v (ended commit v) there none refl, with_length at k ps s.within);
  }
