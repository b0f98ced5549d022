-- How many numbers below a bound meet a test, where the test changes at one of them.
use Rattle.std.proofs.Common.{◌≡◌, ℕ, zero, suc, ◌+◌, ◌<◌, ◌≤◌, nat_lt, not, Bool, true, false, cond, List, set, Option, Some, None, is_some, slice_get, refl, ap, ◌∙◌, arith}
use Rattle.std.specs.Option.{option_map_or}
use Rattle.std.proofs.lemmas.Bool.Decides.{nat_tests}
use Rattle.row_versions.specs.declared.version.Version.{Version}
use Rattle.row_versions.specs.History as history
use Rattle.row_versions.proofs.Places.{get-set_same, get-set_other}
use Rattle.layout_store.specs.Documents.{is_endless, count_below}
use Rattle.layout_store.proofs.Attributes.{equal_or_not}

pub less_of : (n id : ℕ) → id < suc n → (n ≡ id → ⊥) → id < n
less_of n id lt ne = by (nat_lt id n) refl
  where
    by : (t : Bool) → nat_lt id n ≡ t → id < n
    by true e = grind (arith, nat_tests)
    by false e = let ge : n ≤ id = grind (arith, nat_tests) in absurd (ne (omega arith))

-- one where a test holds
abbrev bit : Bool → ℕ
bit true = 1
bit false = 0

bit_is : (b : Bool) → bit b ≡ cond b 1 0
bit_is true = refl
bit_is false = refl

pub count-same : (t u : ℕ → Bool) (n : ℕ) → ((v : ℕ) → v < n → u v ≡ t v) → count_below u n ≡ count_below t n
count-same t u zero same = refl
count-same t u (suc n) same = let here = same n (omega arith) in let rest = count-same t u n (λ v lt. same v (omega arith)) in λ i. cond (here i) 1 0 + rest i

pub count-one : (t u : ℕ → Bool) (n k : ℕ) → k < n → t k ≡ true → u k ≡ false → ((v : ℕ) → (v ≡ k → ⊥) → u v ≡ t v) → count_below t n ≡ count_below u n + 1
count-one t u zero k lt sure not_now same = absurd (omega arith)
count-one t u (suc n) k lt sure not_now same =
    equal_or_not n k (count_below t (suc n) ≡ count_below u (suc n) + 1)
    (λ e.
    let t_here : bit (t n) ≡ 1 = ap bit (ap t e ∙ sure) in
    let u_here : bit (u n) ≡ 0 = ap bit (ap u e ∙ not_now) in
    let rest = count-same t u n (λ v less. same v (λ f. omega arith)) in
    omega (arith, t_here, u_here, rest, bit_is (t n), bit_is (u n)))
    (λ ne.
    let here : bit (u n) ≡ bit (t n) = ap bit (same n ne) in
    let rest = count-one t u n k (less_of n k lt ne) sure not_now same in
    omega (arith, here, rest, bit_is (t n), bit_is (u n)))

pub count-some : (t : ℕ → Bool) (n k : ℕ) → k < n → t k ≡ true → 0 < count_below t n
count-some t zero k lt sure = absurd (omega arith)
count-some t (suc n) k lt sure =
    equal_or_not n k (0 < count_below t (suc n))
    (λ e. let here : bit (t n) ≡ 1 = ap bit (ap t e ∙ sure) in omega (arith, here, bit_is (t n)))
    (λ ne. let rest = count-some t n k (less_of n k lt ne) sure in omega (arith, rest))

pub count-few : (t : ℕ → Bool) (n : ℕ) → count_below t n ≤ n
count-few t zero = omega arith
count-few t (suc n) = let rest = count-few t n in let here = by (t n) in omega (arith, rest, here, bit_is (t n))
  where
    by : (b : Bool) → bit b ≤ 1
    by true = omega arith
    by false = omega arith

pub count-none : (t : ℕ → Bool) (n : ℕ) → ((v : ℕ) → v < n → t v ≡ false) → count_below t n ≡ 0
count-none t zero no_one = refl
count-none t (suc n) no_one = let here : bit (t n) ≡ 0 = ap bit (no_one n (omega arith)) in omega (arith, here, bit_is (t n), count-none t n (λ v lt. no_one v (omega arith)))

-- ---- versions that end

pub versions-set : (change : Version → Version) (place : ℕ) (versions : List Version) (v : Version) → slice_get versions place ≡ Some v → history.changed change place versions ≡ set versions place (change v)
versions-set change place versions v at = ap (λ (o : Option Version). option_map_or (λ (x : Version). set versions place (change x)) o versions) at

pub endless-there : (versions : List Version) (place : ℕ) (v : Version) → slice_get versions place ≡ Some v → v.end ≡ None → is_endless versions place ≡ true
endless-there versions place v at e = ap (λ (o : Option Version). option_map_or (λ (x : Version). not (is_some x.end)) o false) at ∙ ap (λ (o : Option ℕ). not (is_some o)) e

pub endless-gone : (versions : List Version) (place commit : ℕ) (v : Version) → slice_get versions place ≡ Some v → is_endless (set versions place (history.ended commit v)) place ≡ false
endless-gone versions place commit v at = ap (λ (o : Option Version). option_map_or (λ (x : Version). not (is_some x.end)) o false) (get-set_same versions place (history.ended commit v) v at)

pub endless-other : (versions : List Version) (place : ℕ) (x : Version) (w : ℕ) → (w ≡ place → ⊥) → is_endless (set versions place x) w ≡ is_endless versions w
endless-other versions place x w ne = ap (λ (o : Option Version). option_map_or (λ (y : Version). not (is_some y.end)) o false) (get-set_other versions place x w ne)
