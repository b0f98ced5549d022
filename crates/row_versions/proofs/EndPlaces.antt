-- The places of the versions that ended, by their ends.
use Rattle.std.proofs.Common.{◌≡◌, ◌≢◌, ℕ, zero, suc, ◌+◌, ◌-◌, ◌<◌, ◌≤◌, ◌⊎◌, inl, inr, true, List, [], ◌∷◌, ◌++◌, length, set, Option, Some, None, is_some, slice_get, get_or, refl, sym, ap, subst, ◌∙◌, arith, length-append}
use Rattle.std.proofs.lemmas.Bool.{cases_eq, cases_order}
use Rattle.std.proofs.lemmas.Option.{slice_get_within, slice_get-get_or}
use Rattle.row_versions.specs.declared.version.Version.{Version}
use Rattle.row_versions.specs.Inside.{HasEnd, one_of, count_ended, AreEnded, SplitsEnds}
use Rattle.row_versions.proofs.Places.{get-front, get-last, get-push, get-set, get-set_same, get-set_other}

-- ---- ends by place

pub end-once : (xs : List Version) (p e f : ℕ) → HasEnd xs p e → HasEnd xs p f → e ≡ f
end-once xs p e f a b =
    let same : Some a.version ≡ Some b.version = sym a.there ∙ b.there in
    let is : a.version ≡ b.version = cc in
    let ends : Some e ≡ Some f = sym a.at ∙ ap (λ (v : Version). v.end) is ∙ b.at in
    cc

pub end-within : (xs : List Version) (p e : ℕ) → HasEnd xs p e → p < length xs
end-within xs p e h = slice_get_within xs p h.version h.there

-- ---- how many have ended

one_at_most : (o : Option ℕ) → one_of o ≤ 1
one_at_most None = omega arith
one_at_most (Some end) = omega arith

one_some : (o : Option ℕ) → is_some o ≡ true → one_of o ≡ 1
one_some None h = absurd (cc)
one_some (Some end) h = refl

pub few-ended : (xs : List Version) → count_ended xs ≤ length xs
few-ended [] = omega arith
few-ended (v ∷ xs) = omega (arith, one_at_most v.end, few-ended xs)

-- where a version has no end, fewer have one than there are
pub fewer-ended : (xs : List Version) (i : ℕ) (v : Version) → slice_get xs i ≡ Some v → v.end ≡ None → count_ended xs < length xs
fewer-ended [] i v at none = absurd (cc)
fewer-ended (x ∷ xs) zero v at none =
    let is : x ≡ v = cc in
    let e : one_of x.end ≡ 0 = ap (λ (u : Version). one_of u.end) is ∙ ap one_of none in
    omega (arith, few-ended xs)
fewer-ended (x ∷ xs) (suc i) v at none = omega (arith, one_at_most x.end, fewer-ended xs i v at none)

pub count-push : (xs : List Version) (v : Version) → v.end ≡ None → count_ended (xs ++ v ∷ []) ≡ count_ended xs
count-push [] v none = let e : one_of v.end ≡ 0 = ap one_of none in omega arith
count-push (x ∷ xs) v none = ap (λ n. one_of x.end + n) (count-push xs v none)

-- one more has an end
pub count-end : (xs : List Version) (i : ℕ) (v w : Version) → slice_get xs i ≡ Some v → v.end ≡ None → is_some w.end ≡ true → count_ended (set xs i w) ≡ count_ended xs + 1
count-end [] i v w at none some = absurd (cc)
count-end (x ∷ xs) zero v w at none some =
    let is : x ≡ v = cc in
    let e : one_of x.end ≡ 0 = ap (λ (u : Version). one_of u.end) is ∙ ap one_of none in
    let f : one_of w.end ≡ 1 = one_some w.end some in
    omega arith
count-end (x ∷ xs) (suc i) v w at none some = let h = count-end xs i v w at none some in omega arith

-- one more has none
pub count-reopen : (xs : List Version) (i : ℕ) (v w : Version) → slice_get xs i ≡ Some v → is_some v.end ≡ true → w.end ≡ None → count_ended (set xs i w) + 1 ≡ count_ended xs
count-reopen [] i v w at some none = absurd (cc)
count-reopen (x ∷ xs) zero v w at some none =
    let is : x ≡ v = cc in
    let e : one_of x.end ≡ 1 = ap (λ (u : Version). one_of u.end) is ∙ one_some v.end some in
    let f : one_of w.end ≡ 0 = ap one_of none in
    omega arith
count-reopen (x ∷ xs) (suc i) v w at some none = let h = count-reopen xs i v w at some none in omega arith

pub count-same : (xs : List Version) (i : ℕ) (v w : Version) → slice_get xs i ≡ Some v → w.end ≡ v.end → count_ended (set xs i w) ≡ count_ended xs
count-same [] i v w at same = absurd (cc)
count-same (x ∷ xs) zero v w at same =
    let is : v ≡ x = cc in
    ap (λ o. one_of o + count_ended xs) (same ∙ ap (λ (u : Version). u.end) is)
count-same (x ∷ xs) (suc i) v w at same = ap (λ n. one_of x.end + n) (count-same xs i v w at same)

-- ---- a version is appended, or changed in what is not its end

end-back : (xs : List Version) (v : Version) (p e : ℕ) → v.end ≡ None → HasEnd (xs ++ v ∷ []) p e → HasEnd xs p e
end-back xs v p e none h = by (get-push xs v p h.version h.there)
  where
    by : (slice_get xs p ≡ Some h.version) ⊎ ((p ≡ length xs) × (h.version ≡ v)) → HasEnd xs p e
    by (inl there) = record { version = h.version; there = there; at = h.at }
    by (inr new) = let impossible : None ≡ Some e = sym none ∙ ap (λ (u : Version). u.end) (sym new.1) ∙ h.at in absurd (cc)

end-front : (xs : List Version) (v : Version) (p e : ℕ) → HasEnd xs p e → HasEnd (xs ++ v ∷ []) p e
end-front xs v p e h = record { version = h.version; there = get-front xs v p h.version h.there; at = h.at }

pub ended-push : (xs : List Version) (ps : List ℕ) (v : Version) → v.end ≡ None → AreEnded xs ps → AreEnded (xs ++ v ∷ []) ps
ended-push xs ps v none a = record {
  each = λ i p at. let h = a.each i p at in (h.0, end-front xs v p h.0 h.1);
  all = λ p w e at end. let h = end-back xs v p e none (record { version = w; there = at; at = end }) in a.all p h.version e h.there h.at;
  once = a.once;
  rise = λ i j p q e f lt at there h k. a.rise i j p q e f lt at there (end-back xs v p e none h) (end-back xs v q f none k);
  counted = count-push xs v none ∙ a.counted;
}

pub ended-pop : (xs : List Version) (ps : List ℕ) (v : Version) → v.end ≡ None → AreEnded (xs ++ v ∷ []) ps → AreEnded xs ps
ended-pop xs ps v none a = record {
  each = λ i p at. let h = a.each i p at in (h.0, end-back xs v p h.0 none h.1);
  all = λ p w e at end. a.all p w e (get-front xs v p w at) end;
  once = a.once;
  rise = λ i j p q e f lt at there h k. a.rise i j p q e f lt at there (end-front xs v p e h) (end-front xs v q f k);
  counted = sym (count-push xs v none) ∙ a.counted;
}

-- the version at a place has the same end as before
module _ (xs : List Version) (k : ℕ) (v w : Version) (at : slice_get xs k ≡ Some v) (same : w.end ≡ v.end) where
  end-set : (p e : ℕ) → HasEnd xs p e → HasEnd (set xs k w) p e
  end-set p e h = by (cases_eq p k)
    where
      by : (p ≡ k) ⊎ (p ≡ k → ⊥) → HasEnd (set xs k w) p e
      by (inl is) =
          let here : Some h.version ≡ Some v = sym h.there ∙ ap (slice_get xs) is ∙ at in
          let own : v ≡ h.version = cc in
          record { version = w; there = ap (slice_get (set xs k w)) is ∙ get-set_same xs k w v at; at = same ∙ ap (λ (u : Version). u.end) own ∙ h.at }
      by (inr ne) = record { version = h.version; there = get-set_other xs k w p ne ∙ h.there; at = h.at }

  end-unset : (p e : ℕ) → HasEnd (set xs k w) p e → HasEnd xs p e
  end-unset p e h = by (get-set xs k w p h.version h.there)
    where
      by : ((p ≡ k) × (h.version ≡ w)) ⊎ ((p ≡ k → ⊥) × (slice_get xs p ≡ Some h.version)) → HasEnd xs p e
      by (inl is) = record { version = v; there = ap (slice_get xs) is.0 ∙ at; at = sym same ∙ ap (λ (u : Version). u.end) (sym is.1) ∙ h.at }
      by (inr ne) = record { version = h.version; there = ne.1; at = h.at }

  pub ended-same : (ps : List ℕ) → AreEnded xs ps → AreEnded (set xs k w) ps
  ended-same ps a = record {
    each = λ i p there. let h = a.each i p there in (h.0, end-set p h.0 h.1);
    all = λ p u e there end. let h = end-unset p e (record { version = u; there = there; at = end }) in a.all p h.version e h.there h.at;
    once = a.once;
    rise = λ i j p q e f lt there behind h l. a.rise i j p q e f lt there behind (end-unset p e h) (end-unset q f l);
    counted = count-same xs k v w at same ∙ a.counted;
  }

-- ---- the last of the places goes, with the end of its version

module _ (xs : List Version) (ps : List ℕ) (k : ℕ) (v w : Version) (at : slice_get xs k ≡ Some v) (none : w.end ≡ None) (a : AreEnded xs (ps ++ k ∷ [])) where
  last_has : (e : ℕ) × HasEnd xs k e
  last_has = a.each (length ps) k (get-last ps k)

  some_end : is_some v.end ≡ true
  some_end =
      let h = last_has.1 in
      let here : Some h.version ≡ Some v = sym h.there ∙ at in
      let own : v ≡ h.version = cc in
      ap (λ (u : Version). is_some u.end) own ∙ ap is_some h.at

  back : (p e : ℕ) → HasEnd (set xs k w) p e → (p ≢ k) × HasEnd xs p e
  back p e h = by (get-set xs k w p h.version h.there)
    where
      by : ((p ≡ k) × (h.version ≡ w)) ⊎ ((p ≡ k → ⊥) × (slice_get xs p ≡ Some h.version)) → (p ≢ k) × HasEnd xs p e
      by (inl is) = let impossible : None ≡ Some e = sym none ∙ ap (λ (u : Version). u.end) (sym is.1) ∙ h.at in absurd (cc)
      by (inr ne) = (ne.0, record { version = h.version; there = ne.1; at = h.at })

  not_last : (i p : ℕ) → slice_get ps i ≡ Some p → p ≢ k
  not_last i p there is = let same = a.once i (length ps) p (get-front ps k i p there) (get-last ps k ∙ ap (λ n. Some n) (sym is)) in let lt = slice_get_within ps i p there in absurd (omega arith)

  forward : (p e : ℕ) → p ≢ k → HasEnd xs p e → HasEnd (set xs k w) p e
  forward p e ne h = record { version = h.version; there = get-set_other xs k w p ne ∙ h.there; at = h.at }

  found : (p : ℕ) → p ≢ k → (i : ℕ) → slice_get (ps ++ k ∷ []) i ≡ Some p → (j : ℕ) × (slice_get ps j ≡ Some p)
  found p ne i there = elim (get-push ps k i p there) [ inl in_front ↦ (i, in_front) | inr is ↦ absurd (ne is.1) ]

  pub ended-reopen : AreEnded (set xs k w) ps
  ended-reopen = record {
    each = λ i p there. let h = a.each i p (get-front ps k i p there) in (h.0, forward p h.0 (not_last i p there) h.1);
    all = λ p u e there end. let h = back p e (record { version = u; there = there; at = end }) in let i = a.all p h.1.version e h.1.there h.1.at in found p h.0 i.0 i.1;
    once = λ i j p there behind. a.once i j p (get-front ps k i p there) (get-front ps k j p behind);
    rise = λ i j p q e f lt there behind h l. a.rise i j p q e f lt (get-front ps k i p there) (get-front ps k j q behind) (back p e h).1 (back q f l).1;
    counted = let c = a.counted in omega (arith, count-reopen xs k v w at some_end none, length-append ps (k ∷ []));
  }

-- ---- halving

module _ (xs : List Version) (ps : List ℕ) (a : AreEnded xs ps) (m p e n : ℕ) (at : slice_get ps m ≡ Some p) (h : HasEnd xs p e) where
  pub ends-below : e ≤ n → (i q f : ℕ) → i < m + 1 → slice_get ps i ≡ Some q → HasEnd xs q f → f ≤ n
  ends-below le i q f lt there k = by (cases_order i m)
    where
      by : (i ≡ m) ⊎ ((i < m) ⊎ (m < i)) → f ≤ n
      by (inl is) = let same : Some q ≡ Some p = sym there ∙ ap (slice_get ps) is ∙ at in let own : q ≡ p = cc in let one = end-once xs p f e (subst (λ z. HasEnd xs z f) own k) h in omega arith
      by (inr (inl less)) = let up = a.rise i m q p f e less there at k h in omega arith
      by (inr (inr more)) = absurd (omega arith)

  pub ends-above : n < e → (i q f : ℕ) → m ≤ i → slice_get ps i ≡ Some q → HasEnd xs q f → n < f
  ends-above lt i q f le there k = by (cases_order i m)
    where
      by : (i ≡ m) ⊎ ((i < m) ⊎ (m < i)) → n < f
      by (inl is) = let same : Some q ≡ Some p = sym there ∙ ap (slice_get ps) is ∙ at in let own : q ≡ p = cc in let one = end-once xs p f e (subst (λ z. HasEnd xs z f) own k) h in omega arith
      by (inr (inl less)) = absurd (omega arith)
      by (inr (inr more)) = let up = a.rise m i p q e f more at there h k in omega arith

pub place-has : (xs : List Version) (ps : List ℕ) → AreEnded xs ps → (m : ℕ) → m < length ps → (e : ℕ) × HasEnd xs (get_or ps m 0) e
place-has xs ps a m lt = a.each m (get_or ps m 0) (slice_get-get_or ps m 0 lt)

pub all-split : (n : ℕ) (xs : List Version) (ps : List ℕ) (p e : ℕ) → AreEnded xs ps → slice_get ps (length ps - 1) ≡ Some p → HasEnd xs p e → e ≤ n → SplitsEnds n xs ps (length ps)
all-split n xs ps p e a at h le = record {
  within = omega arith;
  low = λ i q f lt there k. ends-below xs ps a (length ps - 1) p e n at h le i q f (omega arith) there k;
  high = λ i q f more there k. let lt = slice_get_within ps i q there in absurd (omega arith);
}
