-- One bit of sixteen words is set or cleared, and the others stay.
use Rattle.std.proofs.Common.{◌≡◌, ◌≢◌, ◌<◌, ◌≤◌, ◌-◌, ◌^◌, ◌∙◌, ap, sym, refl, arith, ℕ, zero, suc, ◌+◌, ◌*◌, ◌/◌, ◌%◌, ◌==◌, List, length, false, slice_index, slice_set, inl, inr}
use Rattle.std.specs.Int.{bit_at, w64, trailing_zeros}
use Rattle.std.proofs.Math.Nat.{div-div-eq-div-mul, div-le_self}
use Rattle.std.proofs.lemmas.Nat.{pow-add}
use Rattle.std.proofs.lemmas.Nat.Bits.{bit_at-trailing_zeros, bit_at_above, bit_at-zero}
use Rattle.std.proofs.lemmas.List.{get_or-set_same, get_or-set_other}
use Rattle.std.proofs.lemmas.Bool.Decides.{eqb_tells, leb_tells}
use Rattle.phys_columns.specs.Filtered.{is_bit}

-- The word that is written has the bit.
pub here : (words : List ℕ) (w j x : ℕ) (bit : ℕ) → w < length words → bit_at x j ≡ bit → is_bit (slice_set words w x) w j ≡ (bit == 1)
here words w j x bit within is = ap (λ y. bit_at y j == 1) (get_or-set_same words w x 0 within) ∙ ap (λ b. b == 1) is

-- Every other bit stays, where the word that is written keeps its other bits.
pub kept : (words : List ℕ) (place x : ℕ) → place / 64 < length words → ((i : ℕ) → i < 64 → i ≢ place % 64 → bit_at x i ≡ bit_at (slice_index words (place / 64)) i) → (k : ℕ) → k ≢ place → is_bit (slice_set words (place / 64) x) (k / 64) (k % 64) ≡ is_bit words (k / 64) (k % 64)
kept words place x within stays k apart = elim (eqb_tells (k / 64) (place / 64)) [
  | inl same ↦
      let other : k % 64 ≢ place % 64 = λ e. apart (omega (arith, same.1, e)) in
      rw same.1 (ap (λ b. b == 1) (ap (λ y. bit_at y (k % 64)) (get_or-set_same words (place / 64) x 0 within) ∙ stays (k % 64) (omega arith) other))
  | inr differs ↦ ap (λ y. bit_at y (k % 64) == 1) (get_or-set_other words (place / 64) (k / 64) x 0 differs.1)
]

-- A bit of what is left of a word behind its lowest bits.
rest_bit : (n s i : ℕ) → bit_at (n / 2 ^ s) i ≡ bit_at n (s + i)
rest_bit n s i = ap (λ m. m % 2) (div-div-eq-div-mul n (2 ^ s) (2 ^ i) ∙ ap (λ p. n / p) (sym (pow-add 2 s i)))

positive : (n : ℕ) → n ≢ 0 → 0 < n
positive zero apart = absurd (apart refl)
positive (suc n) apart = omega arith

module _ (word from : ℕ) (fits : word < 2 ^ 64) where
  abbrev rest : ℕ
  rest = word / 2 ^ from

  rest_fits : rest < 2 ^ 64
  rest_fits = omega (arith, fits, div-le_self word (2 ^ from))

  -- The lowest bit that is left behind a place is one of the word.
  pub lowest_within : rest ≢ 0 → from + trailing_zeros w64 rest < 64
  lowest_within some = elim (leb_tells 64 (from + trailing_zeros w64 rest)) [
    | inl past ↦
        let set : bit_at rest (trailing_zeros w64 rest) ≡ 1 = (bit_at-trailing_zeros w64 rest (positive rest some) rest_fits).1 in
        let gone : bit_at rest (trailing_zeros w64 rest) ≡ 0 = rest_bit word from (trailing_zeros w64 rest) ∙ bit_at_above word 64 (from + trailing_zeros w64 rest) fits past.1 in
        absurd (omega (arith, set, gone))
    | inr inside ↦ inside.1
  ]

  pub lowest_set : rest ≢ 0 → bit_at word (from + trailing_zeros w64 rest) ≡ 1
  lowest_set some = sym (rest_bit word from (trailing_zeros w64 rest)) ∙ (bit_at-trailing_zeros w64 rest (positive rest some) rest_fits).1

  pub none_lower : rest ≢ 0 → (k : ℕ) → from ≤ k → k < from + trailing_zeros w64 rest → bit_at word k ≡ 0
  none_lower some k above below = ap (bit_at word) (omega arith) ∙ sym (rest_bit word from (k - from)) ∙ (bit_at-trailing_zeros w64 rest (positive rest some) rest_fits).2 (k - from) (omega arith)

  pub none_left : rest ≡ 0 → (k : ℕ) → from ≤ k → bit_at word k ≡ 0
  none_left none k above = ap (bit_at word) (omega arith) ∙ sym (rest_bit word from (k - from)) ∙ ap (λ n. bit_at n (k - from)) none ∙ bit_at-zero (k - from)

-- A bit of the word of a place is the mark of a place in the same word.
pub same_word : (words : List ℕ) (place bit b k : ℕ) → k ≡ place / 64 * 64 + bit → bit < 64 → bit_at (slice_index words (place / 64)) bit ≡ b → is_bit words (k / 64) (k % 64) ≡ (b == 1)
same_word words place bit b k is within set =
    let w : k / 64 ≡ place / 64 = omega (arith, is, within) in
    let j : k % 64 ≡ bit = omega (arith, is, within) in
    ap (λ (x : ℕ). bit_at (slice_index words x) (k % 64) == 1) w ∙ ap (λ (x : ℕ). bit_at (slice_index words (place / 64)) x == 1) j ∙ ap (λ n. n == 1) set

-- Where no bit of a word is set from the place's own up to another one, no place of that word up to there is marked.
pub none_marked : (words : List ℕ) (place bit k : ℕ) → bit ≤ 64 → ((i : ℕ) → place % 64 ≤ i → i < bit → bit_at (slice_index words (place / 64)) i ≡ 0) → place ≤ k → k < place / 64 * 64 + bit → is_bit words (k / 64) (k % 64) ≡ false
none_marked words place bit k few none from below = same_word words place (k % 64) 0 k (omega arith) (omega arith) (none (k % 64) (omega arith) (omega arith))
