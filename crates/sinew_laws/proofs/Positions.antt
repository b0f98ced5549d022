-- Where the elements of a list stand that has others behind it.
use Rattle.std.proofs.Common.{◌≡◌, ℕ, zero, suc, ◌+◌, List, [], ◌∷◌, ◌++◌, length, Some, ap, ◌∙◌, arith}
use Rattle.std.specs.Prelude.{slice_get}

pub kept_before : {X : Type 0} (xs more : List X) (i : ℕ) (x : X) → slice_get xs i ≡ Some x → slice_get (xs ++ more) i ≡ Some x
kept_before [] more i x e = absurd (cc)
kept_before (y ∷ xs) more zero x e = e
kept_before (y ∷ xs) more (suc i) x e = kept_before xs more i x e

pub stands_behind : {X : Type 0} (xs more : List X) (k : ℕ) → slice_get (xs ++ more) (length xs + k) ≡ slice_get more k
stands_behind [] more k = let same : 0 + k ≡ k = omega arith in ap (slice_get more) same
stands_behind (x ∷ xs) more k = let same : suc (length xs) + k ≡ suc (length xs + k) = omega arith in ap (slice_get (x ∷ (xs ++ more))) same ∙ stands_behind xs more k
