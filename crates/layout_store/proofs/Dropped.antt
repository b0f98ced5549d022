-- What is left of a list behind a place.
use Rattle.std.proofs.Common.{◌≡◌, ℕ, zero, suc, ◌+◌, ◌<◌, ◌≤◌, List, [], ◌∷◌, length, drop, map, get_or, refl, sym, ap, ◌∙◌, arith}
use Rattle.std.specs.Prelude.{All}
use Rattle.std.proofs.lemmas.List.Elements.{All-head, All-tail}

pub drop-none : {X : Type 0} (xs : List X) → drop 0 xs ≡ xs
drop-none [] = refl
drop-none (x ∷ xs) = refl

drop_suc : {X : Type 0} (xs : List X) (k : ℕ) (d : X) → k < length xs → drop k xs ≡ get_or xs k d ∷ drop (suc k) xs
drop_suc [] k d lt = absurd (omega arith)
drop_suc (x ∷ xs) zero d lt = ap (λ ys. x ∷ ys) (sym (drop-none xs))
drop_suc (x ∷ xs) (suc k) d lt = drop_suc xs k d (omega arith)

pub drop-next : {X : Type 0} (xs : List X) (k : ℕ) (d : X) → k < length xs → drop k xs ≡ get_or xs k d ∷ drop (k + 1) xs
drop-next xs k d lt = let e : suc k ≡ k + 1 = omega arith in drop_suc xs k d lt ∙ ap (λ (n : ℕ). get_or xs k d ∷ drop n xs) e

pub drop-past : {X : Type 0} (xs : List X) (k : ℕ) → length xs ≤ k → drop k xs ≡ []
drop-past [] zero le = refl
drop-past [] (suc k) le = refl
drop-past (x ∷ xs) zero le = absurd (omega arith)
drop-past (x ∷ xs) (suc k) le = drop-past xs k (omega arith)

pub map-same : {X Y : Type 0} (f g : X → Y) (xs : List X) → All (λ x. f x ≡ g x) xs → map f xs ≡ map g xs
map-same f g [] h = refl
map-same f g (x ∷ xs) h = let rest = map-same f g xs (All-tail (λ y. f y ≡ g y) x xs h) in let here = All-head (λ y. f y ≡ g y) x xs h in λ i. here i ∷ rest i
