-- The versions before a commit are a front of the list, since begins rise.
use Rattle.std.proofs.Common.{◌≡◌, ℕ, zero, suc, ◌-◌, ◌<◌, ◌≤◌, ◌⊎◌, inl, inr, Bool, true, false, cond, ◌&&◌, ◌==◌, nat_lt, nat_le, List, [], ◌∷◌, ◌++◌, length, map, set, Option, Some, None, option_map, slice_get, refl, sym, ap, ◌∙◌, arith}
use Rattle.std.specs.List.{filter}
use Rattle.std.proofs.lemmas.Bool.{lt-ltb, le-ltb, le-leb, ltb-true, ltb-false, cases_lt}
use Rattle.row_versions.specs.declared.version.Version.{Version}
use Rattle.row_versions.specs.History.{version_at, is_seen, is_open, begun, ended, end_before, reopened, rolled_back}
use Rattle.row_versions.specs.Order.{BeginsRise, AreOrdered, IsLatest, KeepsOrder}
use Rattle.row_versions.specs.Shows.{ShowsBefore, RollBacksShow}
use Rattle.row_versions.proofs.Places.{get-map, passes, position-agree}
use Rattle.row_versions.proofs.Seen.{changed-is, early-unseen}

abbrev pub below : ℕ → Version → Bool
below commit v = nat_lt v.begin commit

pub rise-tail : (v : Version) (xs : List Version) → BeginsRise (v ∷ xs) → BeginsRise xs
rise-tail v xs h i j a b lt at there = h (suc i) (suc j) a b (omega arith) at there

pub keeps-none : (commit : ℕ) (xs : List Version) → ((i : ℕ) (v : Version) → slice_get xs i ≡ Some v → commit ≤ v.begin) → filter (below commit) xs ≡ []
keeps-none commit [] h = refl
keeps-none commit (v ∷ xs) h = ap (λ b. cond b (v ∷ filter (below commit) xs) (filter (below commit) xs)) (le-ltb v.begin commit (h 0 v refl)) ∙ keeps-none commit xs (λ i w at. h (suc i) w at)

pub keeps-all : (commit : ℕ) (xs : List Version) → ((i : ℕ) (v : Version) → slice_get xs i ≡ Some v → v.begin < commit) → filter (below commit) xs ≡ xs
keeps-all commit [] h = refl
keeps-all commit (v ∷ xs) h = ap (λ b. cond b (v ∷ filter (below commit) xs) (filter (below commit) xs)) (lt-ltb v.begin commit (h 0 v refl)) ∙ ap (λ l. v ∷ l) (keeps-all commit xs (λ i w at. h (suc i) w at))

-- the rest begins no earlier than its head
after_head : (commit : ℕ) (v : Version) (xs : List Version) → BeginsRise (v ∷ xs) → commit ≤ v.begin → (i : ℕ) (w : Version) → slice_get (v ∷ xs) i ≡ Some w → commit ≤ w.begin
after_head commit v xs h le zero w at = let e : v ≡ w = cc in let b : v.begin ≡ w.begin = ap (λ (u : Version). u.begin) e in omega arith
after_head commit v xs h le (suc i) w at = let b = h 0 (suc i) v w (omega arith) refl at in omega arith

-- ---- a version of the front stands where it stood

kept_by : (commit : ℕ) (v : Version) (xs : List Version) → BeginsRise (v ∷ xs) → (b : Bool) → nat_lt v.begin commit ≡ b → (i : ℕ) (w : Version) → slice_get (cond b (v ∷ filter (below commit) xs) (filter (below commit) xs)) i ≡ Some w
    → ((j : ℕ) → slice_get (filter (below commit) xs) j ≡ Some w → (slice_get xs j ≡ Some w) × (w.begin < commit)) → (slice_get (v ∷ xs) i ≡ Some w) × (w.begin < commit)
kept_by commit v xs h true e zero w at rest = let same : v ≡ w = cc in let b : v.begin ≡ w.begin = ap (λ (u : Version). u.begin) same in let lt = ltb-true v.begin commit e in (at, omega arith)
kept_by commit v xs h true e (suc i) w at rest = rest i at
kept_by commit v xs h false e i w at rest =
    let none : filter (below commit) xs ≡ [] = keeps-none commit xs (λ j u there. after_head commit v xs h (ltb-false v.begin commit e) (suc j) u there) in
    let impossible : None ≡ Some w = sym (ap (λ l. slice_get l i) none) ∙ at in
    absurd (cc)

pub get-below : (commit : ℕ) (xs : List Version) → BeginsRise xs → (i : ℕ) (w : Version) → slice_get (filter (below commit) xs) i ≡ Some w → (slice_get xs i ≡ Some w) × (w.begin < commit)
get-below commit [] h i w at = absurd (cc)
get-below commit (v ∷ xs) h i w at = kept_by commit v xs h (nat_lt v.begin commit) refl i w at (λ j. get-below commit xs (rise-tail v xs h) j w)

-- ---- what the front shows

module _ (p q : Version → Bool) (f : Version → Version) (commit : ℕ) (late : (v : Version) → commit ≤ v.begin → p v ≡ false) (alike : (v : Version) → v.begin < commit → q (f v) ≡ p v) where
  none_pass : (xs : List Version) → ((i : ℕ) (v : Version) → slice_get xs i ≡ Some v → commit ≤ v.begin) → (i : ℕ) → passes p xs i ≡ false
  none_pass [] h i = refl
  none_pass (v ∷ xs) h zero = late v (h 0 v refl)
  none_pass (v ∷ xs) h (suc i) = none_pass xs (λ j w at. h (suc j) w at) i

  by_head : (v : Version) (xs : List Version) → BeginsRise (v ∷ xs) → (b : Bool) → nat_lt v.begin commit ≡ b → (i : ℕ) → ((j : ℕ) → passes q (map f (filter (below commit) xs)) j ≡ passes p xs j)
      → passes q (map f (cond b (v ∷ filter (below commit) xs) (filter (below commit) xs))) i ≡ passes p (v ∷ xs) i
  by_head v xs h true e zero rest = alike v (ltb-true v.begin commit e)
  by_head v xs h true e (suc i) rest = rest i
  by_head v xs h false e i rest =
      ap (λ l. passes q (map f l) i) (keeps-none commit xs (λ j u there. after_head commit v xs h (ltb-false v.begin commit e) (suc j) u there))
      ∙ sym (none_pass (v ∷ xs) (after_head commit v xs h (ltb-false v.begin commit e)) i)

  pub passes-below : (xs : List Version) → BeginsRise xs → (i : ℕ) → passes q (map f (filter (below commit) xs)) i ≡ passes p xs i
  passes-below [] h i = refl
  passes-below (v ∷ xs) h i = by_head v xs h (nat_lt v.begin commit) refl i (passes-below xs (rise-tail v xs h))

open_before : (n commit : ℕ) (o : Option ℕ) → n < commit → is_open n (end_before commit o) ≡ is_open n o
open_before n commit None lt = refl
open_before n commit (Some end) lt = elim (cases_lt end commit) [
  | inl early ↦ ap (λ b. is_open n (cond b (Some end) None)) (lt-ltb end commit early)
  | inr late ↦ ap (λ b. is_open n (cond b (Some end) None)) (le-ltb end commit late) ∙ sym (lt-ltb n end (omega arith))
]

open_after : (n commit : ℕ) (o : Option ℕ) → 0 < commit → commit ≤ n → is_open n (end_before commit o) ≡ is_open (commit - 1) o
open_after n commit None pos le = refl
open_after n commit (Some end) pos le = elim (cases_lt end commit) [
  | inl early ↦ ap (λ b. is_open n (cond b (Some end) None)) (lt-ltb end commit early) ∙ le-ltb n end (omega arith) ∙ sym (le-ltb (commit - 1) end (omega arith))
  | inr late ↦ ap (λ b. is_open n (cond b (Some end) None)) (le-ltb end commit late) ∙ sym (lt-ltb (commit - 1) end (omega arith))
]

shows_before : (commit : ℕ) (xs : List Version) → AreOrdered xs → ShowsBefore commit xs (rolled_back commit xs)
shows_before commit xs ordered = record {
  earlier = λ n r lt. ap (option_map version_at) (position-agree (is_seen r n) (is_seen r n) (rolled_back commit xs) xs
      (passes-below (is_seen r n) (is_seen r n) (reopened commit) commit (λ v le. early-unseen r n v (omega arith)) (λ v le. ap (λ b. v.row == r && (nat_le v.begin n && b)) (open_before n commit v.end lt)) xs ordered.rise));
  later = λ n r pos le. ap (option_map version_at) (position-agree (is_seen r n) (is_seen r (commit - 1)) (rolled_back commit xs) xs
      (passes-below (is_seen r (commit - 1)) (is_seen r n) (reopened commit) commit (λ v late. early-unseen r (commit - 1) v (omega arith))
      (λ v lt. ap (λ b. v.row == r && (b && is_open n (end_before commit v.end))) (le-leb v.begin n (omega arith) ∙ sym (le-leb v.begin (commit - 1) (omega arith)))
      ∙ ap (λ b. v.row == r && (nat_le v.begin (commit - 1) && b)) (open_after n commit v.end pos le)) xs ordered.rise));
}

-- ---- what a roll back takes back

by_cons : (commit : ℕ) (v : Version) (xs ys : List Version) (b : Bool) → map (reopened commit) xs ≡ map (reopened commit) ys → map (reopened commit) (cond b (v ∷ xs) xs) ≡ map (reopened commit) (cond b (v ∷ ys) ys)
by_cons commit v xs ys true h = ap (λ l. reopened commit v ∷ l) h
by_cons commit v xs ys false h = h

appended_back : (commit row : ℕ) (xs : List Version) → rolled_back commit (xs ++ begun row commit ∷ []) ≡ rolled_back commit xs
appended_back commit row [] = ap (λ b. map (reopened commit) (cond b (begun row commit ∷ []) [])) (le-ltb commit commit (omega arith))
appended_back commit row (v ∷ xs) = by_cons commit v (filter (below commit) (xs ++ begun row commit ∷ [])) (filter (below commit) xs) (nat_lt v.begin commit) (appended_back commit row xs)

same_reopened : (commit : ℕ) (v : Version) → v.end ≡ None → reopened commit (ended commit v) ≡ reopened commit v
same_reopened commit v none =
    let none_left : end_before commit (Some commit) ≡ end_before commit v.end = ap (λ b. cond b (Some commit) None) (le-ltb commit commit (omega arith)) ∙ ap (end_before commit) (sym none) in
    ap (λ (o : Option ℕ). record v { end = o }) none_left

by_first : (commit : ℕ) (v w : Version) (xs : List Version) (b : Bool) → reopened commit v ≡ reopened commit w → map (reopened commit) (cond b (v ∷ xs) xs) ≡ map (reopened commit) (cond b (w ∷ xs) xs)
by_first commit v w xs true h = ap (λ u. u ∷ map (reopened commit) xs) h
by_first commit v w xs false h = refl

set_back : (commit place : ℕ) (v : Version) (xs : List Version) → slice_get xs place ≡ Some v → v.end ≡ None → rolled_back commit (set xs place (ended commit v)) ≡ rolled_back commit xs
set_back commit place v [] at none = absurd (cc)
set_back commit zero v (x ∷ xs) at none =
    let same : v ≡ x = cc in
    by_first commit (ended commit v) v (filter (below commit) xs) (nat_lt v.begin commit) (same_reopened commit v none) ∙ ap (λ u. rolled_back commit (u ∷ xs)) same
set_back commit (suc place) v (x ∷ xs) at none =
    by_cons commit x (filter (below commit) (set xs place (ended commit v))) (filter (below commit) xs) (nat_lt x.begin commit) (set_back commit place v xs at none)

pub same_map : {X : Type 0} (f : X → X) (xs : List X) → ((i : ℕ) (x : X) → slice_get xs i ≡ Some x → f x ≡ x) → map f xs ≡ xs
same_map f [] h = refl
same_map f (x ∷ xs) h = ap (λ y. y ∷ map f xs) (h 0 x refl) ∙ ap (λ l. x ∷ l) (same_map f xs (λ i y at. h (suc i) y at))

early_end : (commit : ℕ) (o : Option ℕ) → ((end : ℕ) → o ≡ Some end → end < commit) → end_before commit o ≡ o
early_end commit None h = refl
early_end commit (Some end) h = ap (λ b. cond b (Some end) None) (lt-ltb end commit (h end refl))

pub same-reopened : (commit : ℕ) (v : Version) → ((end : ℕ) → v.end ≡ Some end → end < commit) → reopened commit v ≡ v
same-reopened commit v h = ap (λ (o : Option ℕ). record v { end = o }) (early_end commit v.end h)

untouched : (latest commit : ℕ) (xs : List Version) → IsLatest latest xs → latest < commit → rolled_back commit xs ≡ xs
untouched latest commit xs is lt =
    ap (map (reopened commit)) (keeps-all commit xs (λ i v at. let b = is.begins i v at in omega arith))
    ∙ same_map (reopened commit) xs (λ i v at. same-reopened commit v (λ end e. let b = is.ends i v end at e in omega arith))

pub roll-backs-show : RollBacksShow
roll-backs-show = record {
  shows = shows_before;
  appended = appended_back;
  ended = λ commit place v xs at none. ap (rolled_back commit) (changed-is (ended commit) place v xs at) ∙ set_back commit place v xs at none;
  untouched = untouched;
}

-- ---- a roll back keeps the order

pub end-kept : (commit end : ℕ) (o : Option ℕ) → end_before commit o ≡ Some end → (o ≡ Some end) × (end < commit)
end-kept commit end None h = absurd (cc)
end-kept commit end (Some x) h = by (cases_lt x commit)
  where
    by : (x < commit) ⊎ (commit ≤ x) → (◌≡◌ {A = Option ℕ} (Some x) (Some end)) × (end < commit)
    by (inl early) = let e : Some x ≡ Some end = sym (ap (λ b. cond b (Some x) None) (lt-ltb x commit early)) ∙ h in let s : x ≡ end = cc in (e, omega arith)
    by (inr late) = let e : None ≡ Some end = sym (ap (λ b. cond b (Some x) None) (le-ltb x commit late)) ∙ h in absurd (cc)

pub record IsRolled (commit : ℕ) (xs : List Version) (i : ℕ) (w : Version) : Type 0 where
  pub version : Version
  pub there : slice_get xs i ≡ Some version
  pub early : version.begin < commit
  pub is : w ≡ reopened commit version

pub get-rolled : (commit : ℕ) (xs : List Version) → BeginsRise xs → (i : ℕ) (w : Version) → slice_get (rolled_back commit xs) i ≡ Some w → IsRolled commit xs i w
get-rolled commit xs rise i w at =
    let h = get-map (reopened commit) (filter (below commit) xs) i w at in
    let b = get-below commit xs rise i h.0 h.1 in
    record { version = h.0; there = b.0; early = b.1; is = h.2 }

pub rolled-end : (commit : ℕ) (xs : List Version) (i : ℕ) (w : Version) (end : ℕ) (r : IsRolled commit xs i w) → w.end ≡ Some end → (r.version.end ≡ Some end) × (end < commit)
rolled-end commit xs i w end r e = end-kept commit end r.version.end (ap (λ (u : Version). u.end) (sym r.is) ∙ e)

begin_of : (commit : ℕ) (xs : List Version) (i : ℕ) (w : Version) (r : IsRolled commit xs i w) → w.begin ≡ r.version.begin
begin_of commit xs i w r = ap (λ (u : Version). u.begin) r.is

row_is : (commit : ℕ) (xs : List Version) (i : ℕ) (w : Version) (r : IsRolled commit xs i w) → w.row ≡ r.version.row
row_is commit xs i w r = ap (λ (u : Version). u.row) r.is

end_stays : (commit end : ℕ) (w v : Version) → w ≡ reopened commit v → v.end ≡ Some end → end < commit → w.end ≡ Some end
end_stays commit end w v is e lt = ap (λ (u : Version). u.end) is ∙ ap (end_before commit) e ∙ ap (λ b. cond b (Some end) None) (lt-ltb end commit lt)

pub ordered-rolled : (commit : ℕ) (xs : List Version) → AreOrdered xs → AreOrdered (rolled_back commit xs)
ordered-rolled commit xs o = record {
  rise = λ i j a b lt at there.
      let p = get-rolled commit xs o.rise i a at in let q = get-rolled commit xs o.rise j b there in
      let h = o.rise i j p.version q.version lt p.there q.there in
      omega (arith, begin_of commit xs i a p, begin_of commit xs j b q);
  last = λ i v end at e.
      let p = get-rolled commit xs o.rise i v at in let q = rolled-end commit xs i v end p e in
      let h = o.last i p.version end p.there q.0 in
      omega (arith, begin_of commit xs i v p);
  follow = λ i j a b lt at there rows.
      let p = get-rolled commit xs o.rise i a at in let q = get-rolled commit xs o.rise j b there in
      let h = o.follow i j p.version q.version lt p.there q.there (sym (row_is commit xs i a p) ∙ rows ∙ row_is commit xs j b q) in
      (h.0, end_stays commit h.0 a p.version p.is h.1 (let l = h.2 in let e = q.early in omega arith), omega (arith, h.2, begin_of commit xs j b q));
}

pub kept-rolled : (commit horizon : ℕ) (xs : List Version) → KeepsOrder (record { versions = xs; horizon = horizon }) → horizon < commit → length (rolled_back commit xs) ≤ length xs → KeepsOrder (record { versions = rolled_back commit xs; horizon = horizon })
kept-rolled commit horizon xs k above fewer = record {
  ordered = ordered-rolled commit xs k.ordered;
  few = let f = k.few in omega arith;
  emptied = λ i v at gone.
      let p = get-rolled commit xs k.ordered.rise i v at in
      let h = k.emptied i p.version p.there (ap (λ (u : Version). u.emptied) (sym p.is) ∙ gone) in
      (h.0, end_stays commit h.0 v p.version p.is h.1 (let l = h.2 in omega arith), h.2);
}
