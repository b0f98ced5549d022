-- Taking versions away from the end of the list, down to those that begin before a commit.
use Rattle.std.proofs.Common.{◌≡◌, ℕ, ◌-◌, ◌<◌, ◌≤◌, ◌⊎◌, inl, inr, Bool, false, cond, List, [], ◌∷◌, ◌++◌, length, Some, None, slice_get, sym, ap, subst, ◌∙◌, arith, length-append}
use Rattle.std.specs.List.{filter}
use Rattle.std.proofs.lemmas.Bool.{cases_order, le-ltb}
use Rattle.std.proofs.lemmas.Option.{slice_get_within}
use Rattle.row_versions.specs.declared.version.Version.{Version}
use Rattle.row_versions.specs.Order.{BeginsRise}
use Rattle.row_versions.specs.Inside.{AreEnded, Linked, HasOneBehind}
use Rattle.row_versions.proofs.Places.{get-front, get-last, no-last, same-last}
use Rattle.row_versions.proofs.EndPlaces.{ended-pop}
use Rattle.row_versions.proofs.RolledBack.{below, keeps-all}

filter-push : {X : Type 0} (p : X → Bool) (xs : List X) (v : X) → p v ≡ false → filter p (xs ++ v ∷ []) ≡ filter p xs
filter-push p [] v h = ap (λ b. cond b (v ∷ []) []) h
filter-push p (x ∷ xs) v h = ap (λ l. cond (p x) (x ∷ l) l) (filter-push p xs v h)

pub rise-front : (xs : List Version) (v : Version) → BeginsRise (xs ++ v ∷ []) → BeginsRise xs
rise-front xs v h i j a b lt at there = h i j a b lt (get-front xs v i a at) (get-front xs v j b there)

-- what still holds of the versions that are left
pub record IsCutting (commit : ℕ) (before now : List Version) : Type 0 where
  pub rise : BeginsRise now
  pub endless : (i : ℕ) (v : Version) → slice_get now i ≡ Some v → commit ≤ v.begin → v.end ≡ None
  pub kept : filter (below commit) now ≡ filter (below commit) before
  pub ends : (places : List ℕ) → AreEnded before places → AreEnded now places

step : (commit : ℕ) (before front : List Version) (v : Version) → IsCutting commit before (front ++ v ∷ []) → commit ≤ v.begin → IsCutting commit before front
step commit before front v i le = record {
  rise = rise-front front v i.rise;
  endless = λ k w at. i.endless k w (get-front front v k w at);
  kept = sym (filter-push (below commit) front v (le-ltb v.begin commit le)) ∙ i.kept;
  ends = λ places a. ended-pop front places v (i.endless (length front) v (get-last front v) le) (i.ends places a);
}

pub cut-step : (commit : ℕ) (before : List Version) (all front : Linked) (last : Version) → HasOneBehind all front → IsCutting commit before all.versions → slice_get all.versions (length all.versions - 1) ≡ Some last → commit ≤ last.begin → IsCutting commit before front.versions
cut-step commit before all front last h i at le =
    let own : h.version ≡ last = same-last all.versions front.versions last h.version at h.versions in
    let b : h.version.begin ≡ last.begin = ap (λ (u : Version). u.begin) own in
    step commit before front.versions h.version (subst (λ xs. IsCutting commit before xs) h.versions i) (omega arith)

pub shorter : (all front : Linked) → HasOneBehind all front → length front.versions < length all.versions
shorter all front h = omega (arith, ap length h.versions, length-append front.versions (h.version ∷ []))

-- the last one begins before the commit, and so do all
pub cut-done : (commit : ℕ) (before now : List Version) (last : Version) → IsCutting commit before now → slice_get now (length now - 1) ≡ Some last → last.begin < commit → now ≡ filter (below commit) before
cut-done commit before now last i at lt = sym (keeps-all commit now (λ k w there. by k w there (cases_order k (length now - 1)))) ∙ i.kept
  where
    by : (k : ℕ) (w : Version) → slice_get now k ≡ Some w → (k ≡ length now - 1) ⊎ ((k < length now - 1) ⊎ (length now - 1 < k)) → w.begin < commit
    by k w there (inl e) = let same : Some w ≡ Some last = sym there ∙ ap (slice_get now) e ∙ at in let own : w ≡ last = cc in let b : w.begin ≡ last.begin = ap (λ (u : Version). u.begin) own in omega arith
    by k w there (inr (inl less)) = let up = i.rise k (length now - 1) w last less there at in omega arith
    by k w there (inr (inr more)) = let l = slice_get_within now k w there in absurd (omega arith)

pub cut-empty : (commit : ℕ) (before now : List Version) → IsCutting commit before now → slice_get now (length now - 1) ≡ None → now ≡ filter (below commit) before
cut-empty commit before now i at = let none = no-last now at in none ∙ sym (ap (filter (below commit)) none) ∙ i.kept
