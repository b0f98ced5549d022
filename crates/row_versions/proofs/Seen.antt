-- Whether a version is seen, and what rows show after a change.
use Rattle.std.proofs.Common.{◌≡◌, ◌≢◌, ℕ, ◌<◌, ◌≤◌, ◌⊎◌, inl, inr, Bool, true, false, not, ◌&&◌, ◌==◌, nat_le, List, [], ◌∷◌, ◌++◌, length, set, Option, Some, None, option_map, is_some, slice_get, position, refl, sym, ap, ◌∙◌, arith}
use Rattle.std.specs.Option.{option_map_or}
use Rattle.std.proofs.lemmas.Bool.{and_left, and_right, and_from, lt-ltb, le-ltb, le-leb, lt-leb, ne_eqb, eq-eqb, eqb-true, cases_lt}
use Rattle.row_versions.specs.declared.version.Version.{Version}
use Rattle.row_versions.specs.History.{version_at, visible, newest, is_seen, is_open, is_newest, begun, ended, given_up, changed}
use Rattle.row_versions.specs.Order.{HasEndedBy, AreOrdered, IsLatest}
use Rattle.row_versions.specs.Shows.{AppendsShow, EndingsShow, EmptiesShow}
use Rattle.row_versions.proofs.Places.{get-last, get-push, get-set, passes, passes-push, passes-set, position-agree, position-none, position-at, none-position}

-- ---- when a version is seen

pub early-unseen : (row n : ℕ) (v : Version) → n < v.begin → is_seen row n v ≡ false
early-unseen row n v h = and_right (v.row == row) (nat_le v.begin n && is_open n v.end) (and_left (nat_le v.begin n) (is_open n v.end) (lt-leb v.begin n h))

pub foreign-unseen : (row n : ℕ) (v : Version) → v.row ≢ row → is_seen row n v ≡ false
foreign-unseen row n v h = and_left (v.row == row) (nat_le v.begin n && is_open n v.end) (ne_eqb v.row row h)

shut_at : (n end : ℕ) (o : Option ℕ) → o ≡ Some end → end ≤ n → is_open n o ≡ false
shut_at n end None e h = absurd (cc)
shut_at n end (Some x) e h = let same : x ≡ end = cc in le-ltb n x (omega arith)

pub ended-unseen : (row n : ℕ) (v : Version) → HasEndedBy n v → is_seen row n v ≡ false
ended-unseen row n v h = and_right (v.row == row) (nat_le v.begin n && is_open n v.end) (and_right (nat_le v.begin n) (is_open n v.end) (shut_at n h.0 v.end h.1 h.2))

pub seen-so : (row n : ℕ) (v : Version) → v.row ≡ row → v.begin ≤ n → is_open n v.end ≡ true → is_seen row n v ≡ true
seen-so row n v e h open_so = and_from (v.row == row) (nat_le v.begin n && is_open n v.end) (eq-eqb v.row row e) (and_from (nat_le v.begin n) (is_open n v.end) (le-leb v.begin n h) open_so)

pub by-then : (m n : ℕ) (v : Version) → HasEndedBy m v → m ≤ n → HasEndedBy n v
by-then m n v h le = (h.0, h.1, omega (arith, h.2))

-- ---- the version without an end

end_of : (o : Option ℕ) → not (is_some o) ≡ false → (end : ℕ) × (o ≡ Some end)
end_of None h = absurd (cc)
end_of (Some end) h = (end, refl)

tail_false : (b c : Bool) → b && c ≡ false → b ≡ true → c ≡ false
tail_false true c h e = h
tail_false false c h e = absurd (cc)

under_none : (o : Option ℕ) → option_map version_at o ≡ None → o ≡ None
under_none None h = refl
under_none (Some i) h = absurd (cc)

pub all-ended : (row commit : ℕ) (versions : List Version) → IsLatest commit versions → newest row versions ≡ None → (i : ℕ) (v : Version) → slice_get versions i ≡ Some v → v.row ≡ row → HasEndedBy commit v
all-ended row commit versions latest none i v at e =
    let h = none-position (is_newest row) versions (under_none (position (is_newest row) versions) none) i v at in
    let end = end_of v.end (tail_false (v.row == row) (not (is_some v.end)) h (eq-eqb v.row row e)) in
    (end.0, end.1, latest.ends i v end.0 at end.1)

pub one-newest : (row : ℕ) (v : Version) → v.row ≡ row → v.end ≡ None → is_newest row v ≡ true
one-newest row v e h = and_from (v.row == row) (not (is_some v.end)) (eq-eqb v.row row e) (ap (λ o. not (is_some o)) h)

pub ended-old : (row n : ℕ) (v : Version) → HasEndedBy n v → is_newest row v ≡ false
ended-old row n v h = and_right (v.row == row) (not (is_some v.end)) (ap (λ o. not (is_some o)) h.1)

pub foreign-old : (row : ℕ) (v : Version) → v.row ≢ row → is_newest row v ≡ false
foreign-old row v h = and_left (v.row == row) (not (is_some v.end)) (ne_eqb v.row row h)

-- ---- appending

seen_alike : (n row : ℕ) (xs ys : List Version) → ((i : ℕ) → passes (is_seen row n) xs i ≡ passes (is_seen row n) ys i) → visible row n xs ≡ visible row n ys
seen_alike n row xs ys h = ap (option_map version_at) (position-agree (is_seen row n) (is_seen row n) xs ys h)

module _ (row commit : ℕ) (xs : List Version) (latest : IsLatest commit xs) (none : newest row xs ≡ None) (n : ℕ) (le : commit ≤ n) where
  before : (k : ℕ) (w : Version) → k < length xs → slice_get (xs ++ begun row commit ∷ []) k ≡ Some w → (slice_get xs k ≡ Some w) ⊎ ((k ≡ length xs) × (w ≡ begun row commit)) → (b : Bool) → (w.row == row) ≡ b → is_seen row n w ≡ false
  before k w lt at (inl there) true e = ended-unseen row n w (by-then commit n w (all-ended row commit xs latest none k w there (eqb-true w.row row e)) le)
  before k w lt at (inl there) false e = and_left (w.row == row) (nat_le w.begin n && is_open n w.end) e
  before k w lt at (inr there) b e = absurd (omega (arith, there.0))

  append_here : visible row n (xs ++ begun row commit ∷ []) ≡ Some (version_at (length xs))
  append_here = ap (option_map version_at)
      (position-at (is_seen row n) (xs ++ begun row commit ∷ []) (length xs) (begun row commit) (get-last xs (begun row commit)) (seen-so row n (begun row commit) refl le refl)
      (λ k w lt at. before k w lt at (get-push xs (begun row commit) k w at) (w.row == row) refl))

pub appends-show : AppendsShow
appends-show row commit xs ordered latest none = record {
  earlier = λ n r lt. seen_alike n r (xs ++ begun row commit ∷ []) xs (passes-push (is_seen r n) xs (begun row commit) (early-unseen r n (begun row commit) lt));
  elsewhere = λ n r ne. seen_alike n r (xs ++ begun row commit ∷ []) xs (passes-push (is_seen r n) xs (begun row commit) (foreign-unseen r n (begun row commit) (λ e. ne (sym e))));
  here = λ n le. append_here row commit xs latest none n le;
}

-- ---- ending

pub changed-is : (change : Version → Version) (place : ℕ) (v : Version) (xs : List Version) → slice_get xs place ≡ Some v → changed change place xs ≡ set xs place (change v)
changed-is change place v xs h = ap (λ o. option_map_or (λ w. set xs place (change w)) o xs) h

at_once : (place commit n r : ℕ) (v : Version) (xs : List Version) → slice_get xs place ≡ Some v → is_seen r n (ended commit v) ≡ is_seen r n v → visible r n (changed (ended commit) place xs) ≡ visible r n xs
at_once place commit n r v xs at same =
    ap (visible r n) (changed-is (ended commit) place v xs at)
    ∙ seen_alike n r (set xs place (ended commit v)) xs (passes-set (is_seen r n) xs place v (ended commit v) at same)

still_open : (commit n : ℕ) (o : Option ℕ) → o ≡ None → n < commit → is_open n (Some commit) ≡ is_open n o
still_open commit n o e lt = lt-ltb n commit lt ∙ ap (is_open n) (sym e)

both_foreign : (r n commit : ℕ) (v : Version) → r ≢ v.row → is_seen r n (ended commit v) ≡ is_seen r n v
both_foreign r n commit v ne = foreign-unseen r n (ended commit v) (λ e. ne (sym e)) ∙ sym (foreign-unseen r n v (λ e. ne (sym e)))

module _ (place commit : ℕ) (v : Version) (xs : List Version) (ordered : AreOrdered xs) (at : slice_get xs place ≡ Some v) (none : v.end ≡ None) (n : ℕ) (le : commit ≤ n) (begins : v.begin ≤ commit) where
  -- the version that has no end is the last one of its row
  pub is_the_last : (k : ℕ) (w : Version) → place < k → slice_get xs k ≡ Some w → v.row ≡ w.row → ⊥
  is_the_last k w lt there e = let h = ordered.follow place k v w lt at there e in let no_end : None ≡ Some h.0 = sym none ∙ h.1 in absurd (cc)

  others : (k : ℕ) (w : Version) → slice_get xs k ≡ Some w → w.row ≡ v.row → k ≢ place → HasEndedBy commit w
  others k w there e ne = elim (cases_lt k place) [ inl lt ↦ by-then v.begin commit w (ordered.follow k place w v lt there at e) begins | inr ge ↦ absurd (is_the_last k w (omega arith) there (sym e)) ]

  gone : (k : ℕ) (w : Version) → slice_get (set xs place (ended commit v)) k ≡ Some w → ((k ≡ place) × (w ≡ ended commit v)) ⊎ ((k ≡ place → ⊥) × (slice_get xs k ≡ Some w)) → (b : Bool) → (w.row == v.row) ≡ b → is_seen v.row n w ≡ false
  gone k w there (inl here) b e = ap (is_seen v.row n) here.1 ∙ ended-unseen v.row n (ended commit v) (commit, refl, le)
  gone k w there (inr other) true e = ended-unseen v.row n w (by-then commit n w (others k w other.1 (eqb-true w.row v.row e) other.0) le)
  gone k w there (inr other) false e = and_left (w.row == v.row) (nat_le w.begin n && is_open n w.end) e

  ending_here : visible v.row n (changed (ended commit) place xs) ≡ None
  ending_here =
      ap (visible v.row n) (changed-is (ended commit) place v xs at)
      ∙ ap (option_map version_at) (position-none (is_seen v.row n) (set xs place (ended commit v)) (λ k w there. gone k w there (get-set xs place (ended commit v) k w there) (w.row == v.row) refl))

pub endings-show : EndingsShow
endings-show place commit v xs ordered at none begins = record {
  earlier = λ n r lt. at_once place commit n r v xs at (ap (λ b. v.row == r && (nat_le v.begin n && b)) (still_open commit n v.end none lt));
  elsewhere = λ n r ne. at_once place commit n r v xs at (both_foreign r n commit v ne);
  here = λ n le. ending_here place commit v xs ordered at none n le begins;
}

-- ---- emptying

given_up_seen : (place n row : ℕ) (xs : List Version) (o : Option Version) → slice_get xs place ≡ o → visible row n (option_map_or (λ w. set xs place (given_up w)) o xs) ≡ visible row n xs
given_up_seen place n row xs None e = refl
given_up_seen place n row xs (Some v) e = seen_alike n row (set xs place (given_up v)) xs (passes-set (is_seen row n) xs place v (given_up v) e refl)

pub empties-show : EmptiesShow
empties-show place n row xs = given_up_seen place n row xs (slice_get xs place) refl
