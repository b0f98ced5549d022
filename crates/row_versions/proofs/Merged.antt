-- One change for each commit and row, from the commits at which versions begin and end, in order.
use Rattle.std.proofs.Common.{◌≡◌, ℕ, zero, suc, ◌+◌, ◌-◌, ◌<◌, ◌≤◌, ◌⊎◌, inl, inr, Bool, false, cond, ◌==◌, Ordering, Less, Equal, Greater, is_lt, nat_cmp, List, [], ◌∷◌, ◌++◌, length, Option, Some, None, slice_get, get_or, refl, sym, ap, subst, ◌∙◌, arith}
use Rattle.std.specs.List.{Contains}
use Rattle.std.specs.List.Sorted.{IsPermutation}
use Rattle.std.specs.Ordering.{ordering_then}
use Rattle.std.proofs.lemmas.Bool.{cases_eq, cases_lt, cases_order, lt-ltb, le-ltb, eq-eqb, true≢false}
use Rattle.std.proofs.lemmas.List.Sorted.{Contains-permutation, IsPermutation-sym}
use Rattle.std.proofs.lemmas.Option.{slice_get_within, slice_get-get_or, get_or_from_slice_get}
use Rattle.row_versions.specs.declared.version.Version.{Version}
use Rattle.row_versions.specs.declared.touch.Touch.{Touch}
use Rattle.row_versions.specs.declared.change.Change.{Change}
use Rattle.row_versions.specs.History.{visible}
use Rattle.row_versions.specs.Order.{AreOrdered}
use Rattle.row_versions.specs.Inside.{StartsAt}
use Rattle.row_versions.specs.Changes.{IsChange, ComesBefore, AreChanges}
use Rattle.row_versions.specs.Touched.{IsTouch, AreTouches, AreAlike, NotAfter, AreInOrder}
use Rattle.row_versions.proofs.Places.{get-front, get-last, get-push, get-within}

-- ---- the order

pub not-after-trans : (t u w : Touch) → NotAfter t u → NotAfter u w → NotAfter t w
not-after-trans t u w (inl a) (inl b) = inl (omega arith)
not-after-trans t u w (inl a) (inr b) = inl (omega (arith, b.0))
not-after-trans t u w (inr a) (inl b) = inl (omega (arith, a.0))
not-after-trans t u w (inr a) (inr b) = inr (a.0 ∙ b.0, rows a.1 b.1)
  where
    rows : (t.row < u.row) ⊎ ((t.row ≡ u.row) × (t.place ≤ u.place)) → (u.row < w.row) ⊎ ((u.row ≡ w.row) × (u.place ≤ w.place)) → (t.row < w.row) ⊎ ((t.row ≡ w.row) × (t.place ≤ w.place))
    rows (inl x) (inl y) = inl (omega arith)
    rows (inl x) (inr y) = inl (omega (arith, y.0))
    rows (inr x) (inl y) = inl (omega (arith, x.0))
    rows (inr x) (inr y) = inr (x.0 ∙ y.0, omega (arith, x.1, y.1))

commit_up : (t u : Touch) → NotAfter t u → t.commit ≤ u.commit
commit_up t u (inl a) = omega arith
commit_up t u (inr a) = omega (arith, a.0)

row_up : (t u : Touch) → NotAfter t u → t.commit ≡ u.commit → t.row ≤ u.row
row_up t u (inl a) e = absurd (omega arith)
row_up t u (inr a) e = elim a.1 [ inl x ↦ omega arith | inr x ↦ omega (arith, x.0) ]

between : (t u w : Touch) → NotAfter t u → NotAfter u w → AreAlike t w → AreAlike t u
between t u w a b e =
    let c : t.commit ≡ u.commit = omega (arith, commit_up t u a, commit_up u w b, e.0) in
    (c, omega (arith, row_up t u a c, row_up u w b (sym c ∙ e.0), e.1))

step_by_step : (ts : List Touch) (z : Touch) → ((k : ℕ) → k + 1 < length ts → NotAfter (get_or ts k z) (get_or ts (k + 1) z)) → (i d : ℕ) → i + 1 + d < length ts → NotAfter (get_or ts i z) (get_or ts (i + 1 + d) z)
step_by_step ts z h i zero lt = subst (λ k. NotAfter (get_or ts i z) (get_or ts k z)) (omega arith) (h i (omega arith))
step_by_step ts z h i (suc d) lt =
    let next : i + 1 + d + 1 ≡ i + 1 + suc d = omega arith in
    not-after-trans (get_or ts i z) (get_or ts (i + 1 + d) z) (get_or ts (i + 1 + suc d) z) (step_by_step ts z h i d (omega arith)) (subst (λ k. NotAfter (get_or ts (i + 1 + d) z) (get_or ts k z)) next (h (i + 1 + d) (omega arith)))

-- neighbours in order
pub in-order : (ts : List Touch) → ((k : ℕ) (z : Touch) → k + 1 < length ts → NotAfter (get_or ts k z) (get_or ts (k + 1) z)) → AreInOrder ts
in-order ts h i j t u lt at there =
    let far : i + 1 + (j - (i + 1)) ≡ j = omega arith in
    let le : i + 1 + (j - (i + 1)) < length ts = omega (arith, slice_get_within ts j u there) in
    let r = step_by_step ts t (λ k. h k t) i (j - (i + 1)) le in
    let a : get_or ts i t ≡ t = get_or_from_slice_get ts i t t at in
    let b : get_or ts (i + 1 + (j - (i + 1))) t ≡ u = ap (λ k. get_or ts k t) far ∙ get_or_from_slice_get ts j u t there in
    subst (λ (z : Touch). NotAfter z u) a (subst (λ (z : Touch). NotAfter (get_or ts i t) z) b r)

pub permuted : (from to : ℕ) (xs : List Version) (ts us : List Touch) → IsPermutation ts us → AreTouches from to xs ts → AreTouches from to xs us
permuted from to xs ts us p a = record {
  only = λ t c. a.only t (Contains-permutation us ts t (IsPermutation-sym ts us p) c);
  all = λ t i. Contains-permutation ts us t p (a.all t i);
}

contained : (ts : List Touch) (i : ℕ) (t : Touch) → slice_get ts i ≡ Some t → Contains ts t
contained ts i t at = (i, slice_get_within ts i t at, get_or_from_slice_get ts i t t at)

found : (ts : List Touch) (t : Touch) → Contains ts t → (i : ℕ) × (slice_get ts i ≡ Some t)
found ts t c = (c.0, slice_get-get_or ts c.0 t c.1 ∙ ap (λ (z : Touch). Some z) c.2)

-- ---- what was merged so far

pub record HasChange (out : List Change) (t : Touch) : Type 0 where
  pub place : ℕ
  pub change : Change
  pub there : slice_get out place ≡ Some change
  pub commit : change.commit ≡ t.commit
  pub row : change.row ≡ t.row

pub record IsMerged (from to : ℕ) (xs : List Version) (ts : List Touch) (out : List Change) (at : ℕ) : Type 0 where
  pub each : (k : ℕ) (c : Change) → slice_get out k ≡ Some c → IsChange from to xs c
  pub rise : (i j : ℕ) (c d : Change) → i < j → slice_get out i ≡ Some c → slice_get out j ≡ Some d → ComesBefore c d
  pub early : (k : ℕ) (c : Change) → slice_get out k ≡ Some c → (j : ℕ) (t : Touch) → at ≤ j → slice_get ts j ≡ Some t → (c.commit < t.commit) ⊎ ((c.commit ≡ t.commit) × (c.row < t.row))
  pub covered : (j : ℕ) (t : Touch) → j < at → slice_get ts j ≡ Some t → HasChange out t ⊎ ((u : Touch) × (slice_get ts at ≡ Some u) × AreAlike t u)

pub merged-none : (from to : ℕ) (xs : List Version) (ts : List Touch) → IsMerged from to xs ts [] 0
merged-none from to xs ts = record {
  each = λ k c at. absurd (cc);
  rise = λ i j c d lt at there. absurd (cc);
  early = λ k c at. absurd (cc);
  covered = λ j t lt at. absurd (omega arith);
}

module _ (from to : ℕ) (xs : List Version) (ts : List Touch) (out : List Change) (at : ℕ) (m : IsMerged from to xs ts out at) (t : Touch) (here : slice_get ts at ≡ Some t) where
  same_here : (j : ℕ) (u : Touch) → j ≡ at → slice_get ts j ≡ Some u → u ≡ t
  same_here j u e there = let same : Some u ≡ Some t = sym there ∙ ap (slice_get ts) e ∙ here in cc

  pub merged-skip : (next : Touch) → slice_get ts (at + 1) ≡ Some next → AreAlike t next → IsMerged from to xs ts out (at + 1)
  merged-skip next behind alike = record {
    each = m.each;
    rise = m.rise;
    early = λ k c found_c j u le there. m.early k c found_c j u (omega arith) there;
    covered = λ j u lt there. by j u lt there (cases_lt j at);
  }
    where
      later : (u : Touch) → HasChange out u ⊎ ((w : Touch) × (slice_get ts at ≡ Some w) × AreAlike u w) → HasChange out u ⊎ ((w : Touch) × (slice_get ts (at + 1) ≡ Some w) × AreAlike u w)
      later u (inl has) = inl has
      later u (inr w) = let is = same_here at w.0 refl w.1 in inr (next, behind, (w.2.0 ∙ ap (λ (z : Touch). z.commit) is ∙ alike.0, w.2.1 ∙ ap (λ (z : Touch). z.row) is ∙ alike.1))

      by : (j : ℕ) (u : Touch) → j < at + 1 → slice_get ts j ≡ Some u → (j < at) ⊎ (at ≤ j) → HasChange out u ⊎ ((w : Touch) × (slice_get ts (at + 1) ≡ Some w) × AreAlike u w)
      by j u lt there (inl less) = later u (m.covered j u less there)
      by j u lt there (inr ge) = let is = same_here j u (omega arith) there in inr (next, behind, (ap (λ (z : Touch). z.commit) is ∙ alike.0, ap (λ (z : Touch). z.row) is ∙ alike.1))

abbrev place_of : Option Touch → Option ℕ
place_of None = None
place_of (Some t) = Some t.place

-- the last one of its commit and row
module _ (from to : ℕ) (xs : List Version) (ts : List Touch) (order : AreInOrder ts) (all : AreTouches from to xs ts) (at : ℕ) (t : Touch) (here : slice_get ts at ≡ Some t) (last : (u : Touch) → slice_get ts (at + 1) ≡ Some u → AreAlike t u → ⊥) where
  no_more : (j : ℕ) (u : Touch) → at < j → slice_get ts j ≡ Some u → AreAlike t u → ⊥
  no_more j u lt there alike = by (cases_eq j (at + 1))
    where
      by : (j ≡ at + 1) ⊎ (j ≡ at + 1 → ⊥) → ⊥
      by (inl e) = last u (ap (slice_get ts) (sym e) ∙ there) alike
      by (inr ne) =
          let n = get-within ts (at + 1) (omega (arith, slice_get_within ts j u there)) in
          last n.0 n.1 (between t n.0 u (order at (at + 1) t n.0 (omega arith) here n.1) (order (at + 1) j n.0 u (omega arith) n.1 there) alike)

  pub strictly : (j : ℕ) (u : Touch) → at < j → slice_get ts j ≡ Some u → (t.commit < u.commit) ⊎ ((t.commit ≡ u.commit) × (t.row < u.row))
  strictly j u lt there = by (order at j t u lt here there)
    where
      by : NotAfter t u → (t.commit < u.commit) ⊎ ((t.commit ≡ u.commit) × (t.row < u.row))
      by (inl less) = inl less
      by (inr same) = elim same.1 [ inl less ↦ inr (same.0, less) | inr alike ↦ absurd (no_more j u lt there (same.0, alike.0)) ]

  pub touch-here : IsTouch from to xs t
  touch-here = all.only t (contained ts at t here)

  reaches : AreOrdered xs → (i : IsTouch from to xs t) (k : ℕ) (w : Version) → t.place < k → slice_get xs k ≡ Some w → w.row ≡ t.row → t.commit ≤ w.begin
  reaches o i k w gt there e =
      let h = o.follow t.place k i.version w gt i.there there (i.named ∙ sym e) in
      elim i.at [
        | inl begin ↦ omega (arith, begin, o.last t.place i.version h.0 i.there h.1, h.2)
        | inr end ↦ let same : Some h.0 ≡ Some t.commit = sym h.1 ∙ end in let is : h.0 ≡ t.commit = cc in omega (arith, h.2)
      ]

  -- no later version of the row begins at the commit
  none_begins : (k : ℕ) (w : Version) → t.place < k → slice_get xs k ≡ Some w → w.row ≡ t.row → w.begin ≡ t.commit → ⊥
  none_begins k w gt there e begin =
      let u : Touch = record { commit = t.commit; row = t.row; place = k } in
      let i = touch-here in
      let f = found ts u (all.all u (record { above = i.above; within = i.within; version = w; there = there; named = e; at = inl begin })) in
      by f.0 f.1 (cases_order f.0 at)
    where
      before_it : NotAfter (record { commit = t.commit; row = t.row; place = k }) t → ⊥
      before_it (inl less) = absurd (omega arith)
      before_it (inr same) = elim same.1 [ inl less ↦ absurd (omega arith) | inr place ↦ absurd (omega (arith, place.1)) ]

      by : (j : ℕ) → slice_get ts j ≡ Some (record { commit = t.commit; row = t.row; place = k }) → (j ≡ at) ⊎ ((j < at) ⊎ (at < j)) → ⊥
      by j at_j (inl is) =
          let same : ◌≡◌ {A = Option Touch} (Some (record { commit = t.commit; row = t.row; place = k })) (Some t) = sym at_j ∙ ap (slice_get ts) is ∙ here in
          let own : ◌≡◌ {A = Option ℕ} (Some k) (Some t.place) = ap place_of same in
          let place : k ≡ t.place = cc in
          absurd (omega arith)
      by j at_j (inr (inl less)) = before_it (order j at (record { commit = t.commit; row = t.row; place = k }) t less at_j here)
      by j at_j (inr (inr more)) = no_more j (record { commit = t.commit; row = t.row; place = k }) more at_j (refl, refl)

  pub starts-here : AreOrdered xs → StartsAt t.row t.commit xs t.place
  starts-here o = record {
    version = touch-here.version;
    there = touch-here.there;
    named = touch-here.named;
    above = λ k w gt there e. elim (cases_eq w.begin t.commit) [
      | inl is ↦ absurd (none_begins k w gt there e is)
      | inr ne ↦ omega (arith, reaches o touch-here k w gt there e)
    ];
  }

  module _ (out : List Change) (m : IsMerged from to xs ts out at) (c : Change) (is : c ≡ record { row = t.row; commit = t.commit; before = visible t.row (t.commit - 1) xs; after = visible t.row t.commit xs }) where
    c_commit : c.commit ≡ t.commit
    c_commit = ap (λ (z : Change). z.commit) is

    c_row : c.row ≡ t.row
    c_row = ap (λ (z : Change). z.row) is

    is_change : IsChange from to xs c
    is_change =
        let i = touch-here in
        subst (λ (z : Change). IsChange from to xs z) (sym is) (record { above = i.above; within = i.within; touched = (t.place, i.version, i.there, i.named, i.at); before = refl; after = refl })

    each_by : (k : ℕ) (d : Change) → (slice_get out k ≡ Some d) ⊎ ((k ≡ length out) × (d ≡ c)) → IsChange from to xs d
    each_by k d (inl old) = m.each k d old
    each_by k d (inr new) = subst (λ (z : Change). IsChange from to xs z) (sym new.1) is_change

    before_new : (d e : Change) → e ≡ c → (d.commit < t.commit) ⊎ ((d.commit ≡ t.commit) × (d.row < t.row)) → ComesBefore d e
    before_new d e same (inl less) = inl (omega (arith, ap (λ (z : Change). z.commit) same, c_commit))
    before_new d e same (inr more) = inr (more.0 ∙ sym (ap (λ (z : Change). z.commit) same ∙ c_commit), omega (arith, more.1, ap (λ (z : Change). z.row) same, c_row))

    rise_by : (i j : ℕ) (d e : Change) → i < j → (slice_get out i ≡ Some d) ⊎ ((i ≡ length out) × (d ≡ c)) → (slice_get out j ≡ Some e) ⊎ ((j ≡ length out) × (e ≡ c)) → ComesBefore d e
    rise_by i j d e lt (inl old) (inl there) = m.rise i j d e lt old there
    rise_by i j d e lt (inl old) (inr new) = before_new d e new.1 (m.early i d old at t (omega arith) here)
    rise_by i j d e lt (inr new) (inl there) = absurd (omega (arith, new.0, slice_get_within out j e there))
    rise_by i j d e lt (inr new) (inr more) = absurd (omega (arith, new.0, more.0))

    early_new : (d : Change) (u : Touch) → d ≡ c → (t.commit < u.commit) ⊎ ((t.commit ≡ u.commit) × (t.row < u.row)) → (d.commit < u.commit) ⊎ ((d.commit ≡ u.commit) × (d.row < u.row))
    early_new d u same (inl less) = inl (omega (arith, ap (λ (z : Change). z.commit) same, c_commit))
    early_new d u same (inr more) = inr (ap (λ (z : Change). z.commit) same ∙ c_commit ∙ more.0, omega (arith, more.1, ap (λ (z : Change). z.row) same, c_row))

    early_by : (k : ℕ) (d : Change) → (slice_get out k ≡ Some d) ⊎ ((k ≡ length out) × (d ≡ c)) → (j : ℕ) (u : Touch) → at + 1 ≤ j → slice_get ts j ≡ Some u → (d.commit < u.commit) ⊎ ((d.commit ≡ u.commit) × (d.row < u.row))
    early_by k d (inl old) j u le there = m.early k d old j u (omega arith) there
    early_by k d (inr new) j u le there = early_new d u new.1 (strictly j u (omega arith) there)

    has_new : (u : Touch) → AreAlike u t → HasChange (out ++ c ∷ []) u
    has_new u alike = record { place = length out; change = c; there = get-last out c; commit = c_commit ∙ sym alike.0; row = c_row ∙ sym alike.1 }

    covered_by : (u : Touch) → HasChange out u ⊎ ((w : Touch) × (slice_get ts at ≡ Some w) × AreAlike u w) → HasChange (out ++ c ∷ []) u
    covered_by u (inl h) = record { place = h.place; change = h.change; there = get-front out c h.place h.change h.there; commit = h.commit; row = h.row }
    covered_by u (inr w) = let same : Some w.0 ≡ Some t = sym w.1 ∙ here in let own : w.0 ≡ t = cc in has_new u (w.2.0 ∙ ap (λ (z : Touch). z.commit) own, w.2.1 ∙ ap (λ (z : Touch). z.row) own)

    covered_more : (j : ℕ) (u : Touch) → j < at + 1 → slice_get ts j ≡ Some u → (j < at) ⊎ (at ≤ j) → HasChange (out ++ c ∷ []) u
    covered_more j u lt there (inl less) = covered_by u (m.covered j u less there)
    covered_more j u lt there (inr ge) =
        let e : j ≡ at = omega arith in
        let same : Some u ≡ Some t = sym there ∙ ap (slice_get ts) e ∙ here in
        let own : u ≡ t = cc in
        has_new u (ap (λ (z : Touch). z.commit) own, ap (λ (z : Touch). z.row) own)

    pub merged-push : IsMerged from to xs ts (out ++ c ∷ []) (at + 1)
    merged-push = record {
      each = λ k d there. each_by k d (get-push out c k d there);
      rise = λ i j d e lt one two. rise_by i j d e lt (get-push out c i d one) (get-push out c j e two);
      early = λ k d there. early_by k d (get-push out c k d there);
      covered = λ j u lt there. inl (covered_more j u lt there (cases_lt j at));
    }

pub merged-all : (from to at : ℕ) (xs : List Version) (ts : List Touch) (out : List Change) → AreTouches from to xs ts → IsMerged from to xs ts out at → length ts ≤ at → AreChanges from to xs out
merged-all from to at xs ts out a m le = record {
  each = m.each;
  rise = m.rise;
  all = λ place commit v there touches above within.
      let t : Touch = record { commit = commit; row = v.row; place = place } in
      let f = found ts t (a.all t (record { above = above; within = within; version = v; there = there; named = refl; at = touches })) in
      by commit v.row (m.covered f.0 t (omega (arith, slice_get_within ts f.0 t f.1)) f.1);
}
  where
    by : (commit row : ℕ) {place : ℕ} → HasChange out (record { commit = commit; row = row; place = place }) ⊎ ((u : Touch) × (slice_get ts at ≡ Some u) × AreAlike (record { commit = commit; row = row; place = place }) u) → (i : ℕ) × (c : Change) × (slice_get out i ≡ Some c) × (c.commit ≡ commit) × (c.row ≡ row)
    by commit row (inl h) = (h.place, h.change, h.there, h.commit, h.row)
    by commit row (inr w) = absurd (omega (arith, slice_get_within ts at w.0 w.1))

-- ---- what a sort says

first_by : (a b : ℕ) (o : Ordering) → is_lt (ordering_then (nat_cmp a b) o) ≡ false → (b < a) ⊎ ((b ≡ a) × (is_lt o ≡ false))
first_by a b o h = by (cases_order a b)
  where
    by : (a ≡ b) ⊎ ((a < b) ⊎ (b < a)) → (b < a) ⊎ ((b ≡ a) × (is_lt o ≡ false))
    by (inl e) = inr (
      sym e,
      sym (ap (λ (x : Bool). is_lt (ordering_then (cond x Less (cond (a == b) Equal Greater)) o)) (le-ltb a b (omega arith)) ∙ ap (λ (x : Bool). is_lt (ordering_then (cond x Equal Greater) o)) (eq-eqb a b e)) ∙ h,
    )
    by (inr (inl lt)) = absurd (true≢false (sym (ap (λ (x : Bool). is_lt (ordering_then (cond x Less (cond (a == b) Equal Greater)) o)) (lt-ltb a b lt)) ∙ h))
    by (inr (inr gt)) = inl gt

last_by : (a b : ℕ) → is_lt (nat_cmp a b) ≡ false → b ≤ a
last_by a b h = by (cases_lt a b)
  where
    by : (a < b) ⊎ (b ≤ a) → b ≤ a
    by (inl lt) = absurd (true≢false (sym (ap (λ (x : Bool). is_lt (cond x Less (cond (a == b) Equal Greater))) (lt-ltb a b lt)) ∙ h))
    by (inr ge) = ge

pub not-after : (t u : Touch) → is_lt (ordering_then (nat_cmp u.commit t.commit) (ordering_then (nat_cmp u.row t.row) (nat_cmp u.place t.place))) ≡ false → NotAfter t u
not-after t u h = elim (first_by u.commit t.commit (ordering_then (nat_cmp u.row t.row) (nat_cmp u.place t.place)) h) [
  | inl less ↦ inl less
  | inr same ↦ inr (same.0, elim (first_by u.row t.row (nat_cmp u.place t.place) same.1) [ inl less ↦ inl less | inr alike ↦ inr (alike.0, last_by u.place t.place alike.1) ])
]
