-- Each name has a first attribute, and the attributes before that have earlier names.
use Rattle.std.proofs.Common.{◌≡◌, ℕ, ◌<◌, ◌⊎◌, inl, inr, List, [], ◌∷◌, ◌++◌, length, set, Some, slice_get, refl, sym, ap, subst, ◌∙◌, arith, length-set}
use Rattle.std.proofs.lemmas.Option.{slice_get_within, same_Some}
use Rattle.attr_catalog.specs.declared.stored.Stored.{Stored}
use Rattle.attr_catalog.specs.Inside.{IsUsed}
use Rattle.attr_catalog.proofs.Positions.{get-front, get-last, get-push, get-set, get-within}

-- ---- one attribute more

pub used-push : (stored : List Stored) (s : Stored) (place : ℕ) → IsUsed stored place → IsUsed (stored ++ s ∷ []) place
used-push stored s place u = record {
  first = u.first;
  attribute = u.attribute;
  there = get-front stored s u.first u.attribute u.there;
  named = u.named;
  earlier = λ i t l at.
      let within : u.first < length stored = slice_get_within stored u.first u.attribute u.there in
      elim (get-push stored s i t at) [ inl a ↦ u.earlier i t l a | inr b ↦ absurd (omega (arith, b.0)) ];
}

pub used-new : (stored : List Stored) (s : Stored) → ((i : ℕ) (t : Stored) → slice_get stored i ≡ Some t → t.name < s.name) → IsUsed (stored ++ s ∷ []) s.name
used-new stored s below = record {
  first = length stored;
  attribute = s;
  there = get-last stored s;
  named = refl;
  earlier = λ i t l at. elim (get-push stored s i t at) [ inl a ↦ below i t a | inr b ↦ absurd (omega (arith, b.0)) ];
}

-- ---- one attribute changed

module _ (stored : List Stored) (k : ℕ) (s t : Stored) (at : slice_get stored k ≡ Some s) (same : t.name ≡ s.name) (place : ℕ) (u : IsUsed stored place) where
  now : (x : Stored) × (slice_get (set stored k t) u.first ≡ Some x)
  now = get-within (set stored k t) u.first (let within : u.first < length stored = slice_get_within stored u.first u.attribute u.there in omega (arith, length-set stored k t))

  now_named : ((u.first ≡ k) × (now.0 ≡ t)) ⊎ ((u.first ≡ k → ⊥) × (slice_get stored u.first ≡ Some now.0)) → now.0.name ≡ place
  now_named (inl a) =
      let before : s ≡ u.attribute = same_Some s u.attribute (sym at ∙ ap (slice_get stored) (sym a.0) ∙ u.there) in
      ap (λ (x : Stored). x.name) a.1 ∙ same ∙ ap (λ (x : Stored). x.name) before ∙ u.named
  now_named (inr b) = ap (λ (x : Stored). x.name) (same_Some now.0 u.attribute (sym b.1 ∙ u.there)) ∙ u.named

  earlier_by : (i : ℕ) (x : Stored) → i < u.first → ((i ≡ k) × (x ≡ t)) ⊎ ((i ≡ k → ⊥) × (slice_get stored i ≡ Some x)) → x.name < place
  earlier_by i x l (inl a) =
      let before : s.name < place = u.earlier i s l (ap (slice_get stored) a.0 ∙ at) in
      subst (λ (n : ℕ). n < place) (sym (ap (λ (y : Stored). y.name) a.1 ∙ same)) before
  earlier_by i x l (inr b) = u.earlier i x l b.1

  pub used-changed : IsUsed (set stored k t) place
  used-changed = record {
    first = u.first;
    attribute = now.0;
    there = now.1;
    named = now_named (get-set stored k t u.first now.0 now.1);
    earlier = λ i x l h. earlier_by i x l (get-set stored k t i x h);
  }

-- ---- one attribute fewer

-- A name whose first attribute is the last of all: those before it have earlier names.
pub record IsNewest (front : List Stored) (s : Stored) (place : ℕ) : Type 0 where
  pub named : s.name ≡ place
  pub below : (i : ℕ) (t : Stored) → slice_get front i ≡ Some t → t.name < place

pub used-front : (front : List Stored) (s : Stored) (place : ℕ) → IsUsed (front ++ s ∷ []) place → IsUsed front place ⊎ IsNewest front s place
used-front front s place u = by (get-push front s u.first u.attribute u.there)
  where
    by : (slice_get front u.first ≡ Some u.attribute) ⊎ ((u.first ≡ length front) × (u.attribute ≡ s)) → IsUsed front place ⊎ IsNewest front s place
    by (inl a) = inl (record { first = u.first; attribute = u.attribute; there = a; named = u.named; earlier = λ i t l at. u.earlier i t l (get-front front s i t at) })
    by (inr b) = inr (record {
      named = sym (ap (λ (x : Stored). x.name) b.1) ∙ u.named;
      below = λ i t at. let within : i < length front = slice_get_within front i t at in u.earlier i t (omega (arith, b.0)) (get-front front s i t at);
    })
