-- What rows show after the last commit, and that nothing begins or ends after it.
use Rattle.std.proofs.Common.{◌≡◌, ℕ, zero, suc, ◌<◌, ◌≤◌, inl, inr, Bool, true, false, cond, not, ◌&&◌, ◌==◌, nat_le, List, [], ◌∷◌, set, Option, Some, None, option_map, is_some, slice_get, refl, sym, ap, ◌∙◌, arith}
use Rattle.std.specs.List.{filter}
use Rattle.std.specs.Option.{option_map_or}
use Rattle.std.proofs.lemmas.Bool.{le-ltb, le-leb, ltb-true}
use Rattle.row_versions.specs.declared.version.Version.{Version}
use Rattle.row_versions.specs.History.{version_at, is_seen, is_open, is_newest, begun, ended, given_up, reopened}
use Rattle.row_versions.specs.Order.{IsLatest}
use Rattle.row_versions.specs.Shows.{LatestShow, LatestStays}
use Rattle.row_versions.proofs.Places.{get-push, get-set, get-map, passes, position-agree, position-none}
use Rattle.row_versions.proofs.Seen.{foreign-old}
use Rattle.row_versions.proofs.RolledBack.{below, end-kept}
use Rattle.row_versions.proofs.Rows.{row-below}

passes_by : {X : Type 0} (p q : X → Bool) (xs : List X) → ((i : ℕ) (x : X) → slice_get xs i ≡ Some x → p x ≡ q x) → (i : ℕ) → passes p xs i ≡ passes q xs i
passes_by p q [] h i = refl
passes_by p q (x ∷ xs) h zero = h 0 x refl
passes_by p q (x ∷ xs) h (suc i) = passes_by p q xs (λ j y at. h (suc j) y at) i

open_later : (commit n : ℕ) (o : Option ℕ) → commit ≤ n → ((end : ℕ) → o ≡ Some end → end ≤ commit) → is_open n o ≡ is_open commit o
open_later commit n None le h = refl
open_later commit n (Some end) le h = le-ltb n end (omega (arith, h end refl)) ∙ sym (le-ltb commit end (h end refl))

open_newest : (commit : ℕ) (o : Option ℕ) → ((end : ℕ) → o ≡ Some end → end ≤ commit) → not (is_some o) ≡ is_open commit o
open_newest commit None h = refl
open_newest commit (Some end) h = sym (le-ltb commit end (h end refl))

pub latest-show : LatestShow
latest-show = record {
  settled = λ commit n row xs is le. ap (option_map version_at) (position-agree (is_seen row n) (is_seen row commit) xs xs (passes_by (is_seen row n) (is_seen row commit) xs (λ i v at.
      ap (λ b. v.row == row && (b && is_open n v.end)) (le-leb v.begin n (omega (arith, is.begins i v at)) ∙ sym (le-leb v.begin commit (is.begins i v at)))
      ∙ ap (λ b. v.row == row && (nat_le v.begin commit && b)) (open_later commit n v.end le (λ end e. is.ends i v end at e)))));
  standing = λ commit row xs is. ap (option_map version_at) (position-agree (is_newest row) (is_seen row commit) xs xs (passes_by (is_newest row) (is_seen row commit) xs (λ i v at.
      ap (λ b. v.row == row && b) (open_newest commit v.end (λ end e. is.ends i v end at e))
      ∙ ap (λ b. v.row == row && (b && is_open commit v.end)) (sym (le-leb v.begin commit (is.begins i v at))))));
  unborn = λ row xs le. ap (option_map version_at) (position-none (is_newest row) xs (λ i v at. foreign-old row v (λ e. absurd (omega (arith, row-below xs i v at)))));
}

-- ---- nothing begins or ends later

set_latest : (n place : ℕ) (v w : Version) (xs : List Version) → IsLatest n xs → slice_get xs place ≡ Some v → w.begin ≡ v.begin → ((end : ℕ) → w.end ≡ Some end → end ≤ n) → IsLatest n (set xs place w)
set_latest n place v w xs is at same ends = record {
  begins = λ i u there. elim (get-set xs place w i u there) [
    | inl here ↦ omega (arith, ap (λ (z : Version). z.begin) here.1, same, is.begins place v at)
    | inr else ↦ is.begins i u else.1
  ];
  ends = λ i u end there e. elim (get-set xs place w i u there) [
    | inl here ↦ ends end (ap (λ (z : Version). z.end) (sym here.1) ∙ e)
    | inr else ↦ is.ends i u end else.1 e
  ];
}

change_latest : (n place : ℕ) (change : Version → Version) (xs : List Version) (o : Option Version) → slice_get xs place ≡ o → IsLatest n xs → ((v : Version) → (change v).begin ≡ v.begin) → ((v : Version) (end : ℕ) → o ≡ Some v → (change v).end ≡ Some end → end ≤ n) → IsLatest n (option_map_or (λ v. set xs place (change v)) o xs)
change_latest n place change xs None at is begins ends = is
change_latest n place change xs (Some v) at is begins ends = set_latest n place v (change v) xs is at (begins v) (λ end e. ends v end refl e)

early_by : (commit : ℕ) (x : Version) (ys : List Version) (b : Bool) → below commit x ≡ b → (i : ℕ) (v : Version) → slice_get (cond b (x ∷ ys) ys) i ≡ Some v → ((j : ℕ) (w : Version) → slice_get ys j ≡ Some w → w.begin < commit) → v.begin < commit
early_by commit x ys true e zero v at rest = let is : x ≡ v = cc in omega (arith, ltb-true x.begin commit e, ap (λ (z : Version). z.begin) is)
early_by commit x ys true e (suc i) v at rest = rest i v at
early_by commit x ys false e i v at rest = rest i v at

all_early : (commit : ℕ) (xs : List Version) (i : ℕ) (v : Version) → slice_get (filter (below commit) xs) i ≡ Some v → v.begin < commit
all_early commit [] i v at = absurd (cc)
all_early commit (x ∷ xs) i v at = early_by commit x (filter (below commit) xs) (below commit x) refl i v at (λ j w there. all_early commit xs j w there)

pub latest-stays : LatestStays
latest-stays = record {
  new = λ n. record { begins = λ i v at. absurd (cc); ends = λ i v end at e. absurd (cc) };
  later = λ m n xs is le. record { begins = λ i v at. omega (arith, is.begins i v at); ends = λ i v end at e. omega (arith, is.ends i v end at e) };
  appended = λ n row commit xs is le. record {
    begins = λ i v at. elim (get-push xs (begun row commit) i v at) [ inl old ↦ is.begins i v old | inr new ↦ omega (arith, ap (λ (z : Version). z.begin) new.1) ];
    ends = λ i v end at e. elim (get-push xs (begun row commit) i v at) [
      | inl old ↦ is.ends i v end old e
      | inr new ↦ let impossible : None ≡ Some end = ap (λ (z : Version). z.end) (sym new.1) ∙ e in absurd (cc)
    ];
  };
  ended = λ n place commit xs is le. change_latest n place (ended commit) xs (slice_get xs place) refl is (λ v. refl) (λ v end at e. let same : commit ≡ end = cc in omega arith);
  emptied = λ n place xs is. change_latest n place given_up xs (slice_get xs place) refl is (λ v. refl) (λ v end at e. is.ends place v end at e);
  back = λ commit xs some. record {
    begins = λ i w at.
        let u = get-map (reopened commit) (filter (below commit) xs) i w at in
        omega (arith, all_early commit xs i u.0 u.1, ap (λ (z : Version). z.begin) u.2);
    ends = λ i w end at e.
        let u = get-map (reopened commit) (filter (below commit) xs) i w at in
        let k = end-kept commit end u.0.end (ap (λ (z : Version). z.end) (sym u.2) ∙ e) in
        omega (arith, k.1);
  };
}
