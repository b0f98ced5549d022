-- Bits of two masks together, and of an empty one.
use Rattle.std.proofs.Common.{◌≡◌, ◌≢◌, ◌<◌, ◌∙◌, ap, refl, arith, ℕ, zero, suc, ◌+◌, ◌*◌, ◌/◌, ◌%◌, ◌==◌, ◌&&◌, min, List, length, Bool, false, slice_index, slice_set, bit_and, replicate}
use Rattle.std.specs.Int.{bit_at}
use Rattle.std.proofs.lemmas.List.{get_or-set_same, get_or-set_other}
use Rattle.std.proofs.lemmas.Simd.{get_or-replicate}
use Rattle.std.proofs.lemmas.Nat.Bits.{bit_at_and, bit_at-lt, bit_at-zero}
use Rattle.phys_columns.specs.declared.marks.Marks.{Marks}
use Rattle.phys_columns.specs.Filtered.{is_bit}
use Rattle.phys_columns.specs.Pages.{is_marked}

pub no_bit : (w j : ℕ) → w < 16 → is_bit (replicate 16 0) w j ≡ false
no_bit w j few = ap (λ n. bit_at n j == 1) (get_or-replicate 16 w 0 0 few) ∙ ap (λ b. b == 1) (bit_at-zero j)

both : (a b : ℕ) → a < 2 → b < 2 → (min a b == 1) ≡ ((a == 1) && (b == 1))
both zero zero l m = refl
both zero (suc zero) l m = refl
both zero (suc (suc b)) l m = absurd (omega arith)
both (suc zero) zero l m = refl
both (suc zero) (suc zero) l m = refl
both (suc zero) (suc (suc b)) l m = absurd (omega arith)
both (suc (suc a)) b l m = absurd (omega arith)

pub and_bit : (a b j : ℕ) → (bit_at (bit_and a b) j == 1) ≡ ((bit_at a j == 1) && (bit_at b j == 1))
and_bit a b j = ap (λ n. n == 1) (bit_at_and a b j) ∙ both (bit_at a j) (bit_at b j) (bit_at-lt a j) (bit_at-lt b j)

-- The mark of a place by its word and its bit.
pub mark_is : (marks : Marks) (w j : ℕ) → j < 64 → is_marked marks (64 * w + j) ≡ is_bit marks.words w j
mark_is marks w j below =
    let word : (64 * w + j) / 64 ≡ w = omega arith in
    let bit : (64 * w + j) % 64 ≡ j = omega arith in
    ap (λ (x : ℕ). is_bit marks.words x ((64 * w + j) % 64)) word ∙ ap (λ (x : ℕ). is_bit marks.words w x) bit

-- One more word is the one that was there, with another one.
pub step_word : (words marks : List ℕ) (place m w j : ℕ) (met : Bool) → place < length words → slice_index words place ≡ slice_index marks place → (bit_at m j == 1) ≡ met → w ≡ place → is_bit (slice_set words place (bit_and (slice_index words place) m)) w j ≡ (is_bit marks place j && met)
step_word words marks place m w j met within same is here =
    ap (λ (x : ℕ). is_bit (slice_set words place (bit_and (slice_index words place) m)) x j) here
    ∙ ap (λ n. bit_at n j == 1) (get_or-set_same words place (bit_and (slice_index words place) m) 0 within ∙ ap (λ n. bit_and n m) same)
    ∙ and_bit (slice_index marks place) m j
    ∙ ap (λ b. is_bit marks place j && b) is

pub other_word : (words : List ℕ) (place x w : ℕ) → w ≢ place → slice_index (slice_set words place x) w ≡ slice_index words w
other_word words place x w apart = get_or-set_other words place w x 0 apart

pub other_bit : (words : List ℕ) (place x w j : ℕ) → w ≢ place → is_bit (slice_set words place x) w j ≡ is_bit words w j
other_bit words place x w j apart = ap (λ n. bit_at n j == 1) (other_word words place x w apart)
