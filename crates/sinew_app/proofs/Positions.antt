-- Elements of a list by their positions, where one more element comes last.
use Rattle.std.proofs.Common.{◌≡◌, ℕ, ◌+◌, ◌<◌, ◌≤◌, zero, suc, List, [], ◌∷◌, ◌++◌, length, take, Bool, true, false, cond, Some, refl, arith}
use Rattle.std.specs.Prelude.{slice_get}
use Rattle.std.proofs.lemmas.List.{take-append-le, length-append}
use Rattle.std.proofs.lemmas.Option.{slice_get_within}
use Rattle.sinew_app.specs.Step.{order_with}

pub get_kept : {A : Type 0} (xs ys : List A) (k : ℕ) (y : A) → slice_get xs k ≡ Some y → slice_get (xs ++ ys) k ≡ Some y
get_kept [] ys k y e = cc
get_kept (x ∷ xs) ys zero y e = e
get_kept (x ∷ xs) ys (suc k) y e = get_kept xs ys k y e

pub get_last : {A : Type 0} (xs : List A) (x : A) (k : ℕ) → k ≡ length xs → slice_get (xs ++ x ∷ []) k ≡ Some x
get_last [] x zero e = refl
get_last [] x (suc k) e = cc
get_last (y ∷ xs) x zero e = cc
get_last (y ∷ xs) x (suc k) e = get_last xs x k (omega arith)

-- Where an element of a list with one more stands: among those before, or last.
pub data Place {A : Type 0} (xs : List A) (x : A) (k : ℕ) (y : A) : Type 0 where
  old : slice_get xs k ≡ Some y → k < length xs → Place xs x k y
  added : k ≡ length xs → y ≡ x → Place xs x k y

pub place_of : {A : Type 0} (xs : List A) (x : A) (k : ℕ) (y : A) → slice_get (xs ++ x ∷ []) k ≡ Some y → Place xs x k y
place_of [] x zero y e = added refl (cc)
place_of [] x (suc k) y e = cc
place_of (z ∷ xs) x zero y e = old e (omega arith)
place_of (z ∷ xs) x (suc k) y e =
    elim (place_of xs x k y e) [ old f l ↦ old f (omega arith) | added i s ↦ added (omega arith) s ]

pub get_take : {A : Type 0} (n : ℕ) (xs : List A) (i : ℕ) (x : A) → slice_get (take n xs) i ≡ Some x → slice_get xs i ≡ Some x
get_take zero xs i x e = cc
get_take (suc n) [] i x e = cc
get_take (suc n) (y ∷ xs) zero x e = e
get_take (suc n) (y ∷ xs) (suc i) x e = get_take n xs i x e

-- The order of the commits, with the position of one more line where that is accepted.
pub length_order : (accepted : Bool) (order : List ℕ) (n : ℕ) → length (order_with accepted order n) ≡ length order + cond accepted 1 0
length_order true order n = length-append order (n ∷ [])
length_order false order n = omega arith

pub order_kept : (accepted : Bool) (order : List ℕ) (n i k : ℕ) → slice_get order i ≡ Some k → slice_get (order_with accepted order n) i ≡ Some k
order_kept true order n i k e = get_kept order (n ∷ []) i k e
order_kept false order n i k e = e

pub order_last : (accepted : Bool) (order : List ℕ) (n : ℕ) → accepted ≡ true → slice_get (order_with accepted order n) (length order) ≡ Some n
order_last true order n e = get_last order n (length order) refl
order_last false order n e = cc

pub take_order : (accepted : Bool) (order : List ℕ) (n i : ℕ) → i ≤ length order → take i (order_with accepted order n) ≡ take i order
take_order true order n i l = take-append-le i order (n ∷ []) l
take_order false order n i l = refl

-- Where a position of that order stands: among those before, or last, and then it is that of the accepted line.
pub data Ordered (accepted : Bool) (order : List ℕ) (n i k : ℕ) : Type 0 where
  stays : slice_get order i ≡ Some k → i < length order → Ordered accepted order n i k
  joins : i ≡ length order → k ≡ n → accepted ≡ true → Ordered accepted order n i k

pub ordered : (accepted : Bool) (order : List ℕ) (n i k : ℕ) → slice_get (order_with accepted order n) i ≡ Some k → Ordered accepted order n i k
ordered true order n i k e =
    elim (place_of order n i k e) [ old f l ↦ stays f l | added a b ↦ joins a b refl ]
ordered false order n i k e = stays e (slice_get_within order i k e)
