-- Counts that go up and down by the versions below a bound.
use Rattle.std.proofs.Common.{◌≡◌, ℕ, zero, suc, ◌+◌, ◌-◌, ◌<◌, ◌≤◌, ◌&&◌, nat_le, Bool, true, false, cond, List, Some, slice_get, refl, sym, ap, ◌∙◌, arith}
use Rattle.std.proofs.lemmas.Bool.Decides.{nat_tests}
use Rattle.attr_catalog.specs.Attribute.{Attribute}
use Rattle.layout_store.specs.Changes.{AreChanged, lowered_if}
use Rattle.layout_store.specs.Documents.{count_below}
use Rattle.layout_store.specs.RolledBack.{counted, raised_by, lowered_by, raised_if}
use Rattle.layout_store.proofs.Attributes.{changed-back, changed-twice, changed-alike, changed-none}
use Rattle.layout_store.proofs.Counted.{count-none}

pub one_next : (t : ℕ → Bool) (k : ℕ) → count_below t (k + 1) ≡ cond (t k) 1 0 + count_below t k
one_next t k = let e : k + 1 ≡ suc k = omega arith in ap (count_below t) e

abbrev pub bit : Bool → ℕ
bit b = cond b 1 0

one_more : (b : Bool) → b ≡ true → bit b ≡ 1
one_more true e = refl
one_more false e = absurd (cc)

pub count-up : (t : ℕ → Bool) (k more : ℕ) → count_below t k ≤ count_below t (k + more)
count-up t k zero = let e : k + zero ≡ k = omega arith in let same : count_below t (k + zero) ≡ count_below t k = ap (count_below t) e in omega (arith, same)
count-up t k (suc more) =
    let e : k + suc more ≡ (k + more) + 1 = omega arith in
    let same : count_below t (k + suc more) ≡ cond (t (k + more)) 1 0 + count_below t (k + more) = ap (count_below t) e ∙ one_next t (k + more) in
    omega (arith, same, count-up t k more)

-- below the bound is one that meets the test, and those before it
pub count-reach : (t : ℕ → Bool) (k n : ℕ) → k < n → t k ≡ true → count_below t k + 1 ≤ count_below t n
count-reach t k n lt sure =
    let e : n ≡ (k + 1) + (n - (k + 1)) = omega (arith, lt) in
    let same : count_below t n ≡ count_below t ((k + 1) + (n - (k + 1))) = ap (count_below t) e in
    omega (arith, same, count-up t (k + 1) (n - (k + 1)), one_next t k, one_more (t k) sure)

-- ---- attributes that are counted version by version

module _ (test : ℕ → ℕ → Bool) (k : ℕ) (first cur new : List Attribute) where
  raise_by : (t : Bool) (n : ℕ) (a : Attribute) → raised_if t (raised_by n a) ≡ raised_by (cond t 1 0 + n) a
  raise_by true n a = let e : a.count + n + 1 ≡ a.count + (1 + n) = omega arith in ap (λ (m : ℕ). counted m a) e
  raise_by false n a = let e : a.count + n ≡ a.count + (0 + n) = omega arith in ap (λ (m : ℕ). counted m a) e

  pub raised-next : AreChanged (λ id. raised_by (count_below (λ v. test v id) k)) first cur → AreChanged (λ id. raised_if (test k id)) cur new → AreChanged (λ id. raised_by (count_below (λ v. test v id) (k + 1))) first new
  raised-next h more =
      changed-alike (λ id a. raised_if (test k id) (raised_by (count_below (λ v. test v id) k) a)) (λ id. raised_by (count_below (λ v. test v id) (k + 1))) first new
      (changed-twice (λ id. raised_by (count_below (λ v. test v id) k)) (λ id. raised_if (test k id)) first cur new h more)
      (λ id a at. raise_by (test k id) (count_below (λ v. test v id) k) a ∙ ap (λ (m : ℕ). raised_by m a) (sym (one_next (λ v. test v id) k)))

  lower_by : (t : Bool) (n : ℕ) (a : Attribute) → lowered_if t (lowered_by n a) ≡ lowered_by (cond t 1 0 + n) a
  lower_by true n a = let e : a.count - n - 1 ≡ a.count - (1 + n) = omega arith in ap (λ (m : ℕ). counted m a) e
  lower_by false n a = let e : a.count - n ≡ a.count - (0 + n) = omega arith in ap (λ (m : ℕ). counted m a) e

  pub lowered-next : AreChanged (λ id. lowered_by (count_below (λ v. test v id) k)) first cur → AreChanged (λ id. lowered_if (test k id)) cur new → AreChanged (λ id. lowered_by (count_below (λ v. test v id) (k + 1))) first new
  lowered-next h more =
      changed-alike (λ id a. lowered_if (test k id) (lowered_by (count_below (λ v. test v id) k) a)) (λ id. lowered_by (count_below (λ v. test v id) (k + 1))) first new
      (changed-twice (λ id. lowered_by (count_below (λ v. test v id) k)) (λ id. lowered_if (test k id)) first cur new h more)
      (λ id a at. lower_by (test k id) (count_below (λ v. test v id) k) a ∙ ap (λ (m : ℕ). lowered_by m a) (sym (one_next (λ v. test v id) k)))

pub raised-none : (test : ℕ → ℕ → Bool) (first : List Attribute) → AreChanged (λ id. raised_by (count_below (λ v. test v id) 0)) first first
raised-none test first = changed-none (λ id. raised_by (count_below (λ v. test v id) 0)) first (λ id a. let e : a.count + 0 ≡ a.count = omega arith in ap (λ (m : ℕ). counted m a) e)

-- none of the versions below the first that goes is counted
pub lowered-none : (from : ℕ) (holds : ℕ → ℕ → Bool) (first : List Attribute) → AreChanged (λ id. lowered_by (count_below (λ v. nat_le from v && holds v id) from)) first first
lowered-none from holds first =
    changed-none (λ id. lowered_by (count_below (λ v. nat_le from v && holds v id) from)) first
    (λ id a.
    let zero_of : count_below (λ v. nat_le from v && holds v id) from ≡ 0 = count-none (λ v. nat_le from v && holds v id) from (λ v lt. let e : nat_le from v ≡ false = grind (arith, nat_tests) in ap (λ (t : Bool). t && holds v id) e) in
    let e : a.count - count_below (λ v. nat_le from v && holds v id) from ≡ a.count = omega (arith, zero_of) in
    ap (λ (m : ℕ). counted m a) e)

-- a count that has room for all has room for one more
pub raise-room : (test : ℕ → ℕ → Bool) (k n most : ℕ) (first cur : List Attribute) → AreChanged (λ id. raised_by (count_below (λ v. test v id) k)) first cur → k < n → ((id : ℕ) (a : Attribute) → slice_get first id ≡ Some a → a.count + count_below (λ v. test v id) n ≤ most)
    → (id : ℕ) (a : Attribute) → slice_get cur id ≡ Some a → test k id ≡ true → a.count < most
raise-room test k n most first cur h lt room id a at sure =
    let b = changed-back (λ i. raised_by (count_below (λ v. test v i) k)) first cur h id a at in
    let is : a.count ≡ b.0.count + count_below (λ v. test v id) k = ap (λ (x : Attribute). x.count) b.2 in
    omega (arith, is, room id b.0 b.1, count-reach (λ v. test v id) k n lt sure)

-- what is still to be counted less is counted
pub lower-left : (test : ℕ → ℕ → Bool) (k n : ℕ) (first cur : List Attribute) → AreChanged (λ id. lowered_by (count_below (λ v. test v id) k)) first cur → k < n → ((id : ℕ) (a : Attribute) → slice_get first id ≡ Some a → count_below (λ v. test v id) n ≤ a.count)
    → (id : ℕ) (a : Attribute) → slice_get cur id ≡ Some a → test k id ≡ true → 0 < a.count
lower-left test k n first cur h lt held id a at sure =
    let b = changed-back (λ i. lowered_by (count_below (λ v. test v i) k)) first cur h id a at in
    let is : a.count ≡ b.0.count - count_below (λ v. test v id) k = ap (λ (x : Attribute). x.count) b.2 in
    omega (arith, is, held id b.0 b.1, count-reach (λ v. test v id) k n lt sure)

-- ---- sums of counts

pub count-sums : (t u w x : ℕ → Bool) (n : ℕ) → ((v : ℕ) → v < n → bit (t v) + bit (u v) ≡ bit (w v) + bit (x v)) → count_below t n + count_below u n ≡ count_below w n + count_below x n
count-sums t u w x zero each = refl
count-sums t u w x (suc n) each = omega (arith, each n (omega arith), count-sums t u w x n (λ v lt. each v (omega arith)))

pub count-two : (t u : ℕ → Bool) (n : ℕ) → ((v : ℕ) → v < n → bit (t v) + bit (u v) ≤ 1) → count_below t n + count_below u n ≤ n
count-two t u zero each = omega arith
count-two t u (suc n) each = omega (arith, each n (omega arith), count-two t u n (λ v lt. each v (omega arith)))

-- numbers from a bound on that don't meet the test are not counted
pub count-front : (t : ℕ → Bool) (n more : ℕ) → ((v : ℕ) → n ≤ v → t v ≡ false) → count_below t (n + more) ≡ count_below t n
count-front t n zero past = let e : n + zero ≡ n = omega arith in ap (count_below t) e
count-front t n (suc more) past =
    let e : n + suc more ≡ (n + more) + 1 = omega arith in
    let first : count_below t (n + suc more) ≡ bit (t (n + more)) + count_below t (n + more) = ap (count_below t) e ∙ one_next t (n + more) in
    let here : bit (t (n + more)) ≡ 0 = ap bit (past (n + more) (omega arith)) in
    omega (arith, first, here, count-front t n more past)
