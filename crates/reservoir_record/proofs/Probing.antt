-- A binary search over the numbers of a table.
use Rattle.std.proofs.Common.{◌≡◌, ℕ, zero, suc, ◌+◌, ◌*◌, ◌-◌, ◌^◌, ◌<◌, ◌≤◌, List, ap, subst, arith}
use Rattle.std.proofs.Math.Nat.{mul-le-mul_right, mul_assoc, pow-suc}
use Rattle.reservoir_record.specs.Words.{number_at, HasNumbers}

-- later numbers are no lower
rises_by : (bytes : List ℕ) (count : ℕ) → HasNumbers bytes count → (d i : ℕ) → i + d < count → number_at bytes i ≤ number_at bytes (i + d)
rises_by bytes count h zero i lt = let same : i + zero ≡ i = omega arith in omega (arith, ap (number_at bytes) same)
rises_by bytes count h (suc d) i lt =
    let same : i + suc d ≡ i + d + 1 = omega arith in
    omega (arith, ap (number_at bytes) same, h.ascend (i + d) (omega arith), rises_by bytes count h d i (omega arith))

pub rises : (bytes : List ℕ) (count i j : ℕ) → HasNumbers bytes count → i ≤ j → j < count → number_at bytes i ≤ number_at bytes j
rises bytes count i j h le lt =
    let same : i + (j - i) ≡ j = omega arith in
    omega (arith, ap (number_at bytes) same, rises_by bytes count h (j - i) i (omega arith))

-- one more probe doubles what the probes stand for
doubles : (before now : ℕ) → before ≤ now → 2 ^ (now + 1 - before) ≡ 2 * 2 ^ (now - before)
doubles before now le =
    let more : now + 1 - before ≡ suc (now - before) = omega arith in
    rw more (omega (arith, pow-suc 2 (now - before)))

pub cost_more : (before now after w n : ℕ) → before ≤ now → after ≡ now + 1 → 0 < w → w * 2 ^ (now - before) ≤ n → 2 ^ (after - before) ≤ 2 * n + 1
cost_more before now after w n le e some left =
    let one : 1 * 2 ^ (now - before) ≤ w * 2 ^ (now - before) = mul-le-mul_right (2 ^ (now - before)) some in
    rw (e, doubles before now le) (omega arith)

pub needed_more : (before now after w v n : ℕ) → before ≤ now → after ≡ now + 1 → w ≤ 2 * v + 2 → n + 2 ≤ (w + 2) * 2 ^ (now - before) → n + 2 ≤ (v + 2) * 2 ^ (after - before)
needed_more before now after w v n le e half needed =
    let twice : w + 2 ≤ (v + 2) * 2 = omega arith in
    let more : (w + 2) * 2 ^ (now - before) ≤ (v + 2) * 2 * 2 ^ (now - before) = mul-le-mul_right (2 ^ (now - before)) twice in
    rw (e, doubles before now le) (omega (arith, mul_assoc (v + 2) 2 (2 ^ (now - before))))

-- where nothing is left
pub needed_all : (low high probes n : ℕ) → high ≤ low → n + 2 ≤ (high - low + 2) * 2 ^ probes → n + 2 ≤ 2 * 2 ^ probes
needed_all low high probes n none needed = let two : high - low + 2 ≡ 2 = omega arith in subst (λ (m : ℕ). n + 2 ≤ m * 2 ^ probes) two needed

pub left_more : (before now after w v n : ℕ) → before ≤ now → after ≡ now + 1 → 2 * v ≤ w → w * 2 ^ (now - before) ≤ n → v * 2 ^ (after - before) ≤ n
left_more before now after w v n le e half left =
    let twice : v * 2 ≤ w = omega arith in
    let fewer : v * 2 * 2 ^ (now - before) ≤ w * 2 ^ (now - before) = mul-le-mul_right (2 ^ (now - before)) twice in
    rw (e, doubles before now le) (omega (arith, mul_assoc v 2 (2 ^ (now - before))))
