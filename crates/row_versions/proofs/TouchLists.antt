-- Gathering the commits at which versions begin and end.
use Rattle.std.proofs.Common.{◌≡◌, ℕ, ◌+◌, ◌<◌, ◌≤◌, ◌⊎◌, inl, inr, List, [], ◌∷◌, ◌++◌, length, Some, slice_get, refl, sym, ap, subst, ◌∙◌, arith}
use Rattle.std.specs.List.{Contains}
use Rattle.std.proofs.lemmas.Bool.{cases_eq, cases_lt, cases_order}
use Rattle.std.proofs.lemmas.Option.{slice_get_within}
use Rattle.std.proofs.lemmas.List.Elements.{Contains-push, Contains-append_left, Contains-push_cases}
use Rattle.row_versions.specs.declared.version.Version.{Version}
use Rattle.row_versions.specs.declared.touch.Touch.{Touch}
use Rattle.row_versions.specs.Order.{BeginsRise}
use Rattle.row_versions.specs.Inside.{HasEnd, AreEnded, SplitsEnds}
use Rattle.row_versions.specs.Touched.{IsTouch, AreTouches, SplitsBegins}

pub record HasOnly (from to : ℕ) (xs : List Version) (ts : List Touch) : Type 0 where
  pub only : (t : Touch) → Contains ts t → IsTouch from to xs t

pub record HasBegins (from to : ℕ) (xs : List Version) (ts : List Touch) (bound : ℕ) : Type 0 where
  pub has : (t : Touch) (i : IsTouch from to xs t) → i.version.begin ≡ t.commit → t.place < bound → Contains ts t

pub record HasEnds (from to : ℕ) (xs : List Version) (ps : List ℕ) (ts : List Touch) (bound : ℕ) : Type 0 where
  pub has : (t : Touch) (i : IsTouch from to xs t) → i.version.end ≡ Some t.commit → (k : ℕ) → k < bound → slice_get ps k ≡ Some t.place → Contains ts t

-- a touch is told by its version
same_touch : (from to : ℕ) (xs : List Version) (t : Touch) (i : IsTouch from to xs t) (v : Version) (place : ℕ) → t.place ≡ place → slice_get xs place ≡ Some v → i.version ≡ v
same_touch from to xs t i v place e at = let same : Some i.version ≡ Some v = sym i.there ∙ ap (slice_get xs) e ∙ at in cc

no_touch : (t : Touch) → Contains [] t → ⊥
no_touch t h = absurd (omega (arith, h.1))

module _ (from to : ℕ) (xs : List Version) (ts : List Touch) where
  pub only-push : (t : Touch) → HasOnly from to xs ts → IsTouch from to xs t → HasOnly from to xs (ts ++ t ∷ [])
  only-push t h i = record { only = λ u c. elim (Contains-push_cases ts t u c) [ inl old ↦ h.only u old | inr same ↦ subst (λ (z : Touch). IsTouch from to xs z) same i ] }

  pub begins-push : (t : Touch) (bound : ℕ) → HasBegins from to xs ts bound → HasBegins from to xs (ts ++ t ∷ []) bound
  begins-push t bound h = record { has = λ u i e lt. Contains-append_left ts (t ∷ []) u (h.has u i e lt) }

  begin_is : (place : ℕ) (v : Version) (t : Touch) → slice_get xs place ≡ Some v → t ≡ record { commit = v.begin; row = v.row; place = place } → (u : Touch) (i : IsTouch from to xs u) → i.version.begin ≡ u.commit → u.place ≡ place → t ≡ u
  begin_is place v t at is u i e here =
      let own = same_touch from to xs u i v place here at in
      is ∙ (λ j. record {
        commit = (ap (λ (z : Version). z.begin) (sym own) ∙ e) j;
        row = (ap (λ (z : Version). z.row) (sym own) ∙ i.named) j;
        place = (sym here) j;
      })

  pub begins-more : (place : ℕ) (v : Version) (t : Touch) → slice_get xs place ≡ Some v → t ≡ record { commit = v.begin; row = v.row; place = place } → HasBegins from to xs ts place → HasBegins from to xs (ts ++ t ∷ []) (place + 1)
  begins-more place v t at is h = record { has = λ u i e lt. by u i e lt (cases_eq u.place place) }
    where
      by : (u : Touch) (i : IsTouch from to xs u) → i.version.begin ≡ u.commit → u.place < place + 1 → (u.place ≡ place) ⊎ (u.place ≡ place → ⊥) → Contains (ts ++ t ∷ []) u
      by u i e lt (inl here) = subst (λ (z : Touch). Contains (ts ++ t ∷ []) z) (begin_is place v t at is u i e here) (Contains-push ts t)
      by u i e lt (inr ne) = Contains-append_left ts (t ∷ []) u (h.has u i e (omega arith))

  end_is : (place end : ℕ) (v : Version) (t : Touch) → slice_get xs place ≡ Some v → v.end ≡ Some end → t ≡ record { commit = end; row = v.row; place = place } → (u : Touch) (i : IsTouch from to xs u) → i.version.end ≡ Some u.commit → u.place ≡ place → t ≡ u
  end_is place end v t at ends is u i e here =
      let own = same_touch from to xs u i v place here at in
      let same : Some end ≡ Some u.commit = sym ends ∙ ap (λ (z : Version). z.end) (sym own) ∙ e in
      let commit : end ≡ u.commit = cc in
      is ∙ (λ j. record {
        commit = commit j;
        row = (ap (λ (z : Version). z.row) (sym own) ∙ i.named) j;
        place = (sym here) j;
      })

  pub ends-more : (ps : List ℕ) (k place end : ℕ) (v : Version) (t : Touch) → slice_get ps k ≡ Some place → slice_get xs place ≡ Some v → v.end ≡ Some end → t ≡ record { commit = end; row = v.row; place = place } → HasEnds from to xs ps ts k → HasEnds from to xs ps (ts ++ t ∷ []) (k + 1)
  ends-more ps k place end v t found at ends is h = record { has = λ u i e m lt where_u. by u i e m lt where_u (cases_eq m k) }
    where
      by : (u : Touch) (i : IsTouch from to xs u) → i.version.end ≡ Some u.commit → (m : ℕ) → m < k + 1 → slice_get ps m ≡ Some u.place → (m ≡ k) ⊎ (m ≡ k → ⊥) → Contains (ts ++ t ∷ []) u
      by u i e m lt where_u (inl is_k) =
          let same : Some u.place ≡ Some place = sym where_u ∙ ap (slice_get ps) is_k ∙ found in
          let here : u.place ≡ place = cc in
          subst (λ (z : Touch). Contains (ts ++ t ∷ []) z) (end_is place end v t at ends is u i e here) (Contains-push ts t)
      by u i e m lt where_u (inr ne) = Contains-append_left ts (t ∷ []) u (h.has u i e m (omega arith) where_u)

-- ---- the start, and what stands at the end

pub begins-none : (from to at : ℕ) (xs : List Version) (ts : List Touch) → SplitsBegins from xs at → HasBegins from to xs ts at
begins-none from to at xs ts s = record { has = λ t i e lt. absurd (omega (arith, i.above, s.low t.place i.version lt i.there, e)) }

pub begins-all : (from to at bound more : ℕ) (xs : List Version) (ts : List Touch) → SplitsBegins to xs at → at ≤ bound → HasBegins from to xs ts bound → HasBegins from to xs ts more
begins-all from to at bound more xs ts s le h = record { has = λ t i e lt. by t i e (cases_lt t.place at) }
  where
    by : (t : Touch) (i : IsTouch from to xs t) → i.version.begin ≡ t.commit → (t.place < at) ⊎ (at ≤ t.place) → Contains ts t
    by t i e (inl less) = h.has t i e (omega arith)
    by t i e (inr more) = absurd (omega (arith, i.within, s.high t.place i.version more i.there, e))

has_end : (from to : ℕ) (xs : List Version) (t : Touch) (i : IsTouch from to xs t) → i.version.end ≡ Some t.commit → HasEnd xs t.place t.commit
has_end from to xs t i e = record { version = i.version; there = i.there; at = e }

pub ends-none : (from to at : ℕ) (xs : List Version) (ps : List ℕ) (ts : List Touch) → SplitsEnds from xs ps at → HasEnds from to xs ps ts at
ends-none from to at xs ps ts s = record { has = λ t i e k lt found. absurd (omega (arith, i.above, s.low k t.place t.commit lt found (has_end from to xs t i e))) }

pub all-touches : (from to at bound : ℕ) (xs : List Version) (ps : List ℕ) (ts : List Touch) → AreEnded xs ps → SplitsEnds to xs ps at → at ≤ bound → HasOnly from to xs ts → HasBegins from to xs ts (length xs) → HasEnds from to xs ps ts bound → AreTouches from to xs ts
all-touches from to at bound xs ps ts a s le only begins ends = record {
  only = only.only;
  all = λ t i. elim i.at [
    | inl begin ↦ begins.has t i begin (slice_get_within xs t.place i.version i.there)
    | inr end ↦
        let k = a.all t.place i.version t.commit i.there end in
        by t i end k.0 k.1 (cases_lt k.0 at)
  ];
}
  where
    by : (t : Touch) (i : IsTouch from to xs t) → i.version.end ≡ Some t.commit → (k : ℕ) → slice_get ps k ≡ Some t.place → (k < at) ⊎ (at ≤ k) → Contains ts t
    by t i e k found (inl less) = ends.has t i e k (omega arith) found
    by t i e k found (inr more) = absurd (omega (arith, i.within, s.high k t.place t.commit more found (has_end from to xs t i e)))

-- ---- halving

module _ (xs : List Version) (rise : BeginsRise xs) (m n : ℕ) (v : Version) (at : slice_get xs m ≡ Some v) where
  pub begins-below : v.begin ≤ n → (i : ℕ) (w : Version) → i < m + 1 → slice_get xs i ≡ Some w → w.begin ≤ n
  begins-below le i w lt there = by (cases_order i m)
    where
      by : (i ≡ m) ⊎ ((i < m) ⊎ (m < i)) → w.begin ≤ n
      by (inl is) = let same : Some w ≡ Some v = sym there ∙ ap (slice_get xs) is ∙ at in let own : w ≡ v = cc in omega (arith, ap (λ (z : Version). z.begin) own)
      by (inr (inl less)) = omega (arith, rise i m w v less there at)
      by (inr (inr more)) = absurd (omega arith)

  pub begins-above : n < v.begin → (i : ℕ) (w : Version) → m ≤ i → slice_get xs i ≡ Some w → n < w.begin
  begins-above lt i w le there = by (cases_order i m)
    where
      by : (i ≡ m) ⊎ ((i < m) ⊎ (m < i)) → n < w.begin
      by (inl is) = let same : Some w ≡ Some v = sym there ∙ ap (slice_get xs) is ∙ at in let own : w ≡ v = cc in omega (arith, ap (λ (z : Version). z.begin) own)
      by (inr (inl less)) = absurd (omega arith)
      by (inr (inr more)) = omega (arith, rise m i v w more at there)

-- ---- one turn of each loop

begin_touch : (from to a b place : ℕ) (xs : List Version) (v : Version) → SplitsBegins from xs a → SplitsBegins to xs b → a ≤ place → place < b → slice_get xs place ≡ Some v → IsTouch from to xs (record { commit = v.begin; row = v.row; place = place })
begin_touch from to a b place xs v s t low high at = record {
  above = s.high place v low at;
  within = t.low place v high at;
  version = v;
  there = at;
  named = refl;
  at = inl refl;
}

pub begin-turn : (from to a b place : ℕ) (xs : List Version) (ts us : List Touch) (v : Version) (t : Touch) → SplitsBegins from xs a → SplitsBegins to xs b → a ≤ place → place < b → slice_get xs place ≡ Some v → t ≡ record { commit = v.begin; row = v.row; place = place } → us ≡ ts ++ t ∷ [] → HasOnly from to xs ts → HasBegins from to xs ts place
    → HasOnly from to xs us × HasBegins from to xs us (place + 1)
begin-turn from to a b place xs ts us v t s r low high at is grown only begins =
    subst (λ l. HasOnly from to xs l × HasBegins from to xs l (place + 1)) (sym grown)
    (only-push from to xs ts t only (subst (λ (z : Touch). IsTouch from to xs z) (sym is) (begin_touch from to a b place xs v s r low high at)), begins-more from to xs ts place v t at is begins)

end_touch : (from to a b k place end : ℕ) (xs : List Version) (ps : List ℕ) (v : Version) → SplitsEnds from xs ps a → SplitsEnds to xs ps b → a ≤ k → k < b → slice_get ps k ≡ Some place → slice_get xs place ≡ Some v → v.end ≡ Some end → IsTouch from to xs (record { commit = end; row = v.row; place = place })
end_touch from to a b k place end xs ps v s t low high found at ends = record {
  above = s.high k place end low found (record { version = v; there = at; at = ends });
  within = t.low k place end high found (record { version = v; there = at; at = ends });
  version = v;
  there = at;
  named = refl;
  at = inr ends;
}

pub end-turn : (from to a b k place end bound : ℕ) (xs : List Version) (ps : List ℕ) (ts us : List Touch) (v : Version) (t : Touch) → SplitsEnds from xs ps a → SplitsEnds to xs ps b → a ≤ k → k < b → slice_get ps k ≡ Some place → slice_get xs place ≡ Some v → v.end ≡ Some end → t ≡ record { commit = end; row = v.row; place = place } → us ≡ ts ++ t ∷ []
    → HasOnly from to xs ts → HasBegins from to xs ts bound → HasEnds from to xs ps ts k → HasOnly from to xs us × HasBegins from to xs us bound × HasEnds from to xs ps us (k + 1)
end-turn from to a b k place end bound xs ps ts us v t s r low high found at is_end is grown only begins ends =
    subst (λ l. HasOnly from to xs l × HasBegins from to xs l bound × HasEnds from to xs ps l (k + 1)) (sym grown)
    (only-push from to xs ts t only (subst (λ (z : Touch). IsTouch from to xs z) (sym is) (end_touch from to a b k place end xs ps v s r low high found at is_end)), begins-push from to xs ts t bound begins, ends-more from to xs ts ps k place end v t found at is_end is ends)

pub none-yet : (from to : ℕ) (xs : List Version) → HasOnly from to xs []
none-yet from to xs = record { only = λ t c. absurd (no_touch t c) }
