-- Taking the ends from a commit on away, the last of them first.
use Rattle.std.proofs.Common.{◌≡◌, ℕ, zero, suc, ◌-◌, ◌<◌, ◌⊎◌, inl, inr, true, false, cond, List, [], ◌∷◌, ◌++◌, length, map, set, Option, Some, None, slice_get, refl, sym, ap, subst, ◌∙◌, arith}
use Rattle.std.proofs.lemmas.Bool.{ltb-true}
use Rattle.std.proofs.lemmas.Option.{slice_get_within}
use Rattle.row_versions.specs.declared.version.Version.{Version}
use Rattle.row_versions.specs.History.{endless, end_before, reopened}
use Rattle.row_versions.specs.Inside.{HasEnd, AreEnded, ends_before}
use Rattle.row_versions.proofs.Places.{get-last, get-push, same-last}
use Rattle.row_versions.proofs.EndPlaces.{end-once, ended-reopen}
use Rattle.row_versions.proofs.RolledBack.{same_map, same-reopened}

same_at : (commit : ℕ) (xs : List Version) (k : ℕ) (v w : Version) → slice_get xs k ≡ Some v → reopened commit w ≡ reopened commit v → map (reopened commit) (set xs k w) ≡ map (reopened commit) xs
same_at commit [] k v w at same = absurd (cc)
same_at commit (x ∷ xs) zero v w at same = let is : v ≡ x = cc in ap (λ u. u ∷ map (reopened commit) xs) (same ∙ ap (reopened commit) is)
same_at commit (x ∷ xs) (suc k) v w at same = ap (λ l. reopened commit x ∷ l) (same_at commit xs k v w at same)

late_end : (commit : ℕ) (o : Option ℕ) → ends_before commit o ≡ false → end_before commit o ≡ None
late_end commit None h = refl
late_end commit (Some end) h = ap (λ b. cond b (Some end) None) h

-- a version that has no end before the commit is reopened
pub reopens-same : (commit : ℕ) (xs ys : List Version) (k : ℕ) (v : Version) → slice_get xs k ≡ Some v → ends_before commit v.end ≡ false → map (reopened commit) xs ≡ map (reopened commit) ys → map (reopened commit) (set xs k (endless v)) ≡ map (reopened commit) ys
reopens-same commit xs ys k v at late before =
    same_at commit xs k v (endless v) at (ap (λ (o : Option ℕ). record v { end = o }) (sym (late_end commit v.end late))) ∙ before

early : (commit end : ℕ) (o : Option ℕ) → ends_before commit o ≡ true → o ≡ Some end → end < commit
early commit end None h e = absurd (cc)
early commit end (Some x) h e = let same : x ≡ end = cc in let lt = ltb-true x commit h in omega arith

-- all ends come before the commit where the last one does
pub all-early : (commit : ℕ) (xs : List Version) (ps : List ℕ) (k : ℕ) (v : Version) → AreEnded xs (ps ++ k ∷ []) → slice_get xs k ≡ Some v → ends_before commit v.end ≡ true
    → (i : ℕ) (w : Version) (end : ℕ) → slice_get xs i ≡ Some w → w.end ≡ Some end → end < commit
all-early commit xs ps k v a at before i w end there e =
    let last = a.each (length ps) k (get-last ps k) in
    let h = last.1 in
    let here : Some v ≡ Some h.version = sym at ∙ h.there in
    let own : v ≡ h.version = cc in
    let bound : last.0 < commit = early commit last.0 v.end before (ap (λ (u : Version). u.end) own ∙ h.at) in
    let place = a.all i w end there e in
    let mine : HasEnd xs i end = record { version = w; there = there; at = e } in
    by last.0 h bound place.0 place.1 mine (get-push ps k place.0 i place.1)
  where
    by : (f : ℕ) → HasEnd xs k f → f < commit → (j : ℕ) → slice_get (ps ++ k ∷ []) j ≡ Some i → HasEnd xs i end → (slice_get ps j ≡ Some i) ⊎ ((j ≡ length ps) × (i ≡ k)) → end < commit
    by f h bound j at_j mine (inl front) = let le = a.rise j (length ps) i k end f (slice_get_within ps j i front) at_j (get-last ps k) mine h in omega arith
    by f h bound j at_j mine (inr last) = let same = end-once xs k end f (record { version = mine.version; there = ap (slice_get xs) (sym last.1) ∙ mine.there; at = mine.at }) h in omega arith

pub none-early : (commit : ℕ) (xs : List Version) → AreEnded xs [] → (i : ℕ) (w : Version) (end : ℕ) → slice_get xs i ≡ Some w → w.end ≡ Some end → end < commit
none-early commit xs a i w end there e = let p = a.all i w end there e in let impossible : None ≡ Some i = p.1 in absurd (cc)

-- then nothing is left to reopen
pub all-reopened : (commit : ℕ) (xs ys : List Version) → ((i : ℕ) (w : Version) (end : ℕ) → slice_get xs i ≡ Some w → w.end ≡ Some end → end < commit) → map (reopened commit) xs ≡ map (reopened commit) ys → xs ≡ map (reopened commit) ys
all-reopened commit xs ys h same = sym (same_map (reopened commit) xs (λ i v at. same-reopened commit v (λ end e. h i v end at e))) ∙ same

-- the last place is taken, and its version reopened
pub reopened-ends : (xs zs : List Version) (ps qs : List ℕ) (k y : ℕ) (v w : Version) → AreEnded xs ps → slice_get ps (length ps - 1) ≡ Some k → ps ≡ qs ++ y ∷ [] → slice_get xs k ≡ Some v → w ≡ endless v → zs ≡ set xs k w → AreEnded zs qs
reopened-ends xs zs ps qs k y v w a last split at is made =
    let same : y ≡ k = same-last ps qs k y last split in
    let whole : ps ≡ qs ++ k ∷ [] = split ∙ ap (λ n. qs ++ n ∷ []) same in
    subst (λ l. AreEnded l qs) (sym made) (ended-reopen xs qs k v w at (ap (λ (u : Version). u.end) is) (subst (λ l. AreEnded xs l) whole a))

pub reopened-same : (commit : ℕ) (xs ys zs : List Version) (k : ℕ) (v w : Version) → slice_get xs k ≡ Some v → ends_before commit v.end ≡ false → w ≡ endless v → zs ≡ set xs k w → map (reopened commit) xs ≡ map (reopened commit) ys → map (reopened commit) zs ≡ map (reopened commit) ys
reopened-same commit xs ys zs k v w at late is made before = ap (map (reopened commit)) (made ∙ ap (set xs k) is) ∙ reopens-same commit xs ys k v at late before
