-- What the bits say of a comparison of 64 numbers in lanes.
use Rattle.std.proofs.Common.{◌≡◌, ◌<◌, ◌≤◌, ◌∙◌, ap, sym, refl, arith, ℕ, zero, suc, ◌+◌, ◌^◌, ◌-◌, ◌%◌, ◌==◌, ℤ, pos, negsuc, ◌≤ℤ◌, List, length, map, Bool, true, false, cond, not, slice_index_or, inl, inr, eqb, int_lt, replicate}
use Rattle.std.specs.Int.{bit_at, bit_not}
use Rattle.std.proofs.lemmas.Nat.Bits.{bit_at_not, bit_at-lt}
use mir.Syntax.{w64}
use mir.Val.{to_z, of_z, SFits, hbits, bits}
use lib.Signed.{lt_z}
use Rattle.std.specs.declared.cmp.Ordering.TheVariants.{Less, Equal, Greater}
use Rattle.std.specs.Ordering.{int_cmp, int_eq, is_eq, is_lt, is_gt}
use Rattle.std.specs.Cmp.{int_cmp_total, tied_itself}
use Rattle.std.specs.FinMap.{int_cmp-IsAntisymmetric}
use Rattle.std.proofs.lemmas.Bool.Decides.{eqb_tells}
use lib.Lanes.{zip2, chunk, mask_l, top}
use Rattle.std.proofs.lemmas.Int.{to_z-of_z, by_lt_z, ints}
use Rattle.std.proofs.lemmas.List.{get_or-map, length-map}
use Rattle.std.proofs.lemmas.Simd.{bitmask_splat, tops_compared, zip2_splat_left, mask_l-mod, bit_mask_l, length-chunk, get_or-chunk}

told : (b : Bool) → (cond b 1 0 == 1) ≡ b
told true = refl
told false = refl

-- Bit j of the mask of some tests is what the test says of item j.
bit_of : {X : Type 0} (f : X → Bool) (xs : List X) (j : ℕ) (d : X) → j < length xs → (bit_at (mask_l (map f xs)) j == 1) ≡ f (slice_index_or xs j d)
bit_of f xs j d below = ap (λ n. n == 1) (bit_mask_l (map f xs) j) ∙ told _ ∙ get_or-map f xs j d false below

-- The bits of a comparison t of lanes with a fixed number, which says of numbers of 64 bits what s does.
pub lanes_met : (t : ℕ → ℕ → Bool) (s : ℤ → ℤ → Bool) → ((a b : ℤ) → SFits w64 a → SFits w64 b → t (of_z w64 a) (of_z w64 b) ≡ s a b) → (numbers : List ℤ) (at : ℕ) (with : ℤ) → at + 64 ≤ length numbers → ((k : ℕ) → SFits w64 (slice_index_or numbers k (pos 0))) → SFits w64 with → (j : ℕ) → j < 64
    → (bit_at (mask_l (map (top (hbits w64)) (zip2 (λ a b. cond (t a b) (2 ^ bits w64 - 1) 0) (map (of_z w64) (chunk at 64 numbers)) (replicate 64 (of_z w64 with)))) % 2 ^ 64) j == 1) ≡ s (slice_index_or numbers (at + j) (pos 0)) with
lanes_met t s same numbers at with within fit fits j below =
    let lanes = map (of_z w64) (chunk at 64 numbers) in
    let chunked : length (chunk at 64 numbers) ≡ 64 = length-chunk at 64 numbers within in
    let long : length (map (of_z w64) (chunk at 64 numbers)) ≡ 64 = length-map (chunk at 64 numbers) (of_z w64) ∙ chunked in
    ap (λ m. bit_at m j == 1) (bitmask_splat w64 t lanes 64 (of_z w64 with) long (omega arith))
    ∙ bit_of (λ x. t x (of_z w64 with)) lanes j 0 (omega (arith, long))
    ∙ ap (λ x. t x (of_z w64 with)) (get_or-map (of_z w64) (chunk at 64 numbers) j (pos 0) 0 (omega (arith, chunked)) ∙ ap (of_z w64) (get_or-chunk at 64 numbers j (pos 0) below))
    ∙ same _ with (fit (at + j)) fits

-- The same, with the fixed number on the left.
pub lanes_met_left : (t : ℕ → ℕ → Bool) (s : ℤ → ℤ → Bool) → ((a b : ℤ) → SFits w64 a → SFits w64 b → t (of_z w64 a) (of_z w64 b) ≡ s a b) → (numbers : List ℤ) (at : ℕ) (with : ℤ) → at + 64 ≤ length numbers → ((k : ℕ) → SFits w64 (slice_index_or numbers k (pos 0))) → SFits w64 with → (j : ℕ) → j < 64
    → (bit_at (mask_l (map (top (hbits w64)) (zip2 (λ a b. cond (t a b) (2 ^ bits w64 - 1) 0) (replicate 64 (of_z w64 with)) (map (of_z w64) (chunk at 64 numbers)))) % 2 ^ 64) j == 1) ≡ s with (slice_index_or numbers (at + j) (pos 0))
lanes_met_left t s same numbers at with within fit fits j below =
    let chunked : length (chunk at 64 numbers) ≡ 64 = length-chunk at 64 numbers within in
    let long : length (map (of_z w64) (chunk at 64 numbers)) ≡ 64 = length-map (chunk at 64 numbers) (of_z w64) ∙ chunked in
    let x = of_z w64 with in
    let ys = map (of_z w64) (chunk at 64 numbers) in
    let many : length (map (λ y. t x y) ys) ≡ 64 = length-map ys (λ y. t x y) ∙ long in
    ap (λ m. bit_at m j == 1) (ap (λ ms. mask_l ms % 2 ^ 64) (tops_compared w64 t (replicate 64 x) ys ∙ zip2_splat_left t x 64 ys long) ∙ mask_l-mod (map (λ y. t x y) ys) 64 (omega (arith, many)))
    ∙ bit_of (λ y. t x y) ys j 0 (omega (arith, long))
    ∙ ap (λ y. t x y) (get_or-map (of_z w64) (chunk at 64 numbers) j (pos 0) 0 (omega (arith, chunked)) ∙ ap (of_z w64) (get_or-chunk at 64 numbers j (pos 0) below))
    ∙ same with _ fits (fit (at + j))

-- What two of the comparisons of lanes say of numbers of 64 bits.
pub signed_lt : (a b : ℤ) → SFits w64 a → SFits w64 b → lt_z (to_z w64 (of_z w64 a)) (to_z w64 (of_z w64 b)) ≡ int_lt a b
signed_lt a b f g = ap (λ x. lt_z x (to_z w64 (of_z w64 b))) (to_z-of_z w64 a f) ∙ ap (lt_z a) (to_z-of_z w64 b g)

pub signed_eq : (a b : ℤ) → SFits w64 a → SFits w64 b → eqb (of_z w64 a) (of_z w64 b) ≡ int_eq a b
signed_eq a b f g = elim (eqb_tells (of_z w64 a) (of_z w64 b)) [
  | inl same ↦
      let one : a ≡ b = sym (to_z-of_z w64 a f) ∙ ap (to_z w64) same.1 ∙ to_z-of_z w64 b g in
      same.0 ∙ sym (ap is_eq (ap (int_cmp a) (sym one) ∙ tied_itself int_cmp_total a))
  | inr differs ↦ differs.0 ∙ sym (elim (int_cmp a b) as (λ r. int_cmp a b ≡ r → is_eq r ≡ false) [
    | Less ↦ λ e. refl
    | Equal ↦ λ e. absurd (differs.1 (ap (of_z w64) (int_cmp-IsAntisymmetric a b e)))
    | Greater ↦ λ e. refl
  ] refl)
]

-- A bit of a word whose bits are all turned.
pub turned_bit : (n j : ℕ) (b : Bool) → n < 2 ^ 64 → j < 64 → (bit_at n j == 1) ≡ b → (bit_at (bit_not w64 n) j == 1) ≡ not b
turned_bit n j b fits below is = ap (λ m. m == 1) (bit_at_not w64 n j fits below) ∙ turned (bit_at n j) (bit_at-lt n j) ∙ ap not is
  where
    turned : (m : ℕ) → m < 2 → (1 - m == 1) ≡ not (m == 1)
    turned zero low = refl
    turned (suc zero) low = refl
    turned (suc (suc m)) low = absurd (omega arith)

pub lt_is : (a b : ℤ) → int_lt a b ≡ is_lt (int_cmp a b)
lt_is a b = elim (int_lt a b) as (λ t. t ≡ is_lt (cond t Less (cond (int_lt b a) Greater Equal))) [
  | true ↦ refl
  | false ↦ elim (int_lt b a) as (λ t. false ≡ is_lt (cond t Greater Equal)) [ true ↦ refl | false ↦ refl ]
]

pub gt_is : (a b : ℤ) → int_lt b a ≡ is_gt (int_cmp a b)
gt_is a b = by_lt_z {P = int_lt b a ≡ is_gt (int_cmp a b)} a b (λ less. grind (arith, ints)) (λ more. grind (arith, ints))

-- A number that may be stored is one of 64 bits, signed.
pub storable_fits : (z : ℤ) → (negsuc 9223372036854775807 ≤ℤ z) × (z ≤ℤ pos 9223372036854775807) → SFits w64 z
storable_fits (pos n) h = record { sfits = omega (arith, ints, h.1) }
storable_fits (negsuc n) h = record { sfits = omega (arith, ints, h.0) }

pub only_zeros : (n k : ℕ) → slice_index_or (replicate n (pos 0)) k (pos 0) ≡ pos 0
only_zeros zero k = refl
only_zeros (suc n) zero = refl
only_zeros (suc n) (suc k) = only_zeros n k
