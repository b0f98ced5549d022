-- From a version of a row to the ones before it, down to the one that is seen.
use Rattle.std.proofs.Common.{◌≡◌, ℕ, ◌<◌, ◌≤◌, ◌⊎◌, inl, inr, Bool, true, false, ◌&&◌, ◌==◌, nat_le, List, length, Some, None, option_map, slice_get, refl, sym, ap, ◌∙◌, arith}
use Rattle.std.proofs.lemmas.Bool.{and_left, and_right, eqb-true, cases_order}
use Rattle.std.proofs.lemmas.Option.{slice_get_within}
use Rattle.row_versions.specs.declared.version.Version.{Version}
use Rattle.row_versions.specs.History.{version_at, visible, is_seen, is_open}
use Rattle.row_versions.specs.Order.{AreOrdered}
use Rattle.row_versions.specs.Inside.{AreOther, IsPlaceOfLast, StartsAt}
use Rattle.row_versions.proofs.Places.{position-none, position-at}
use Rattle.row_versions.proofs.Seen.{early-unseen, ended-unseen, seen-so, by-then}

pub starts-within : (row n place : ℕ) (xs : List Version) → StartsAt row n xs place → place < length xs
starts-within row n place xs s = slice_get_within xs place s.version s.there

-- the version of a row, or of another row
pub row-cases : (row n : ℕ) (w : Version) → (w.row ≡ row → is_seen row n w ≡ false) → is_seen row n w ≡ false
row-cases row n w h = by (w.row == row) refl
  where
    by : (b : Bool) → (w.row == row) ≡ b → is_seen row n w ≡ false
    by true e = h (eqb-true w.row row e)
    by false e = and_left (w.row == row) (nat_le w.begin n && is_open n w.end) e

module _ (row n place : ℕ) (xs : List Version) (ordered : AreOrdered xs) (s : StartsAt row n xs place) (v : Version) (at : slice_get xs place ≡ Some v) where
  own : s.version ≡ v
  own = let e : Some s.version ≡ Some v = sym s.there ∙ at in cc

  pub row_of_start : v.row ≡ row
  row_of_start = ap (λ (u : Version). u.row) (sym own) ∙ s.named

  later : (k : ℕ) (w : Version) → place < k → slice_get xs k ≡ Some w → is_seen row n w ≡ false
  later k w lt there = row-cases row n w (λ e. early-unseen row n w (s.above k w lt there e))

  earlier : v.begin ≤ n → (k : ℕ) (w : Version) → k < place → slice_get xs k ≡ Some w → is_seen row n w ≡ false
  earlier le k w lt there = row-cases row n w (λ e. ended-unseen row n w (by-then v.begin n w (ordered.follow k place w v lt there at (e ∙ sym row_of_start)) le))

  pub is-shown : v.begin ≤ n → is_open n v.end ≡ true → Some (version_at place) ≡ visible row n xs
  is-shown le o = sym (ap (option_map version_at) (position-at (is_seen row n) xs place v at (seen-so row n v row_of_start le o) (λ k w lt there. earlier le k w lt there)))

  unseen_here : is_seen row n v ≡ false → ((k : ℕ) (w : Version) → k < place → slice_get xs k ≡ Some w → is_seen row n w ≡ false) → None ≡ visible row n xs
  unseen_here here before = sym (ap (option_map version_at) (position-none (is_seen row n) xs by))
    where
      by_order : (k : ℕ) (w : Version) → slice_get xs k ≡ Some w → (k ≡ place) ⊎ ((k < place) ⊎ (place < k)) → is_seen row n w ≡ false
      by_order k w there (inl e) = let same : Some w ≡ Some v = sym there ∙ ap (slice_get xs) e ∙ at in let is : w ≡ v = cc in ap (is_seen row n) is ∙ here
      by_order k w there (inr (inl lt)) = before k w lt there
      by_order k w there (inr (inr gt)) = later k w gt there

      by : (k : ℕ) (w : Version) → slice_get xs k ≡ Some w → is_seen row n w ≡ false
      by k w there = by_order k w there (cases_order k place)

  pub is-shut : v.begin ≤ n → is_open n v.end ≡ false → None ≡ visible row n xs
  is-shut le o = unseen_here (and_right (v.row == row) (nat_le v.begin n && is_open n v.end) (and_right (nat_le v.begin n) (is_open n v.end) o)) (earlier le)

  pub is-first : n < v.begin → AreOther v.row xs 0 place → None ≡ visible row n xs
  is-first lt other = unseen_here (early-unseen row n v lt) (λ k w below there. row-cases row n w (λ e. absurd (other k w (omega arith) below there (e ∙ sym row_of_start))))

  pub steps-down : n < v.begin → (before : ℕ) → IsPlaceOfLast v.row xs place before → StartsAt row n xs before
  steps-down lt before last = record {
    version = last.version;
    there = last.there;
    named = last.named ∙ row_of_start;
    above = λ k w gt there e. by k w gt there e (cases_order k place);
  }
    where
      by : (k : ℕ) (w : Version) → before < k → slice_get xs k ≡ Some w → w.row ≡ row → (k ≡ place) ⊎ ((k < place) ⊎ (place < k)) → n < w.begin
      by k w gt there e (inl here) = let same : Some w ≡ Some v = sym there ∙ ap (slice_get xs) here ∙ at in let is : w ≡ v = cc in let b : w.begin ≡ v.begin = ap (λ (u : Version). u.begin) is in omega arith
      by k w gt there e (inr (inl less)) = absurd (last.later k w (omega arith) less there (e ∙ sym row_of_start))
      by k w gt there e (inr (inr more)) = s.above k w more there e

-- the last version of a row is where to start
pub last-starts : (row n place : ℕ) (xs : List Version) → IsPlaceOfLast row xs (length xs) place → StartsAt row n xs place
last-starts row n place xs last = record {
  version = last.version;
  there = last.there;
  named = last.named;
  above = λ k w gt there e. absurd (last.later k w (omega arith) (slice_get_within xs k w there) there e);
}

-- a version of the row may be asked for at an earlier number too
pub starts-before : (row n m place : ℕ) (xs : List Version) → m ≤ n → StartsAt row n xs place → StartsAt row m xs place
starts-before row n m place xs le s = record {
  version = s.version;
  there = s.there;
  named = s.named;
  above = λ k w gt there e. omega (arith, s.above k w gt there e);
}
