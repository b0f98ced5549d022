-- A number beyond 64 bits stands in no list of such numbers.
use Rattle.std.proofs.Common.{◌≡◌, ℕ, ◌^◌, ◌<◌, ◌≤◌, ◌==◌, false, List, [], ◌∷◌, get_or, suc, refl, arith, eqb}
use Rattle.std.specs.List.{list_any}
use Rattle.std.proofs.lemmas.Bool.Decides.{nat_tests}

pub list_any-beyond : (number : ℕ) (xs : List ℕ) → 2 ^ 64 ≤ number → ((i : ℕ) → get_or xs i 0 < 2 ^ 64) → list_any (λ x. x == number) xs ≡ false
list_any-beyond number [] beyond within = refl
list_any-beyond number (x ∷ xs) beyond within =
    let first : x < 2 ^ 64 = within 0 in
    let unlike : eqb x number ≡ false = grind (arith, nat_tests) in
    rw unlike (list_any-beyond number xs beyond (λ i. within (suc i)))
