-- Filtering in place, and places for tuples.
use Rattle.std.proofs.Common.{◌≡◌, ◌∙◌, ℕ, zero, suc, ◌+◌, ◌<◌, List, [], ◌∷◌, map, Bool, true, false, cond, length, get_or, take, drop, set, refl, sym, ap, subst, arith}
use Rattle.std.specs.Prelude.{All, filter}
use Rattle.std.proofs.lemmas.List.Elements.{All-nil, All-cons, All-head, All-tail}
use Rattle.std.proofs.lemmas.List.Filters.{FiltersInPlace, FiltersInPlace-more_set, FiltersInPlace-more_no}
use Rattle.sql_eval.specs.declared.truth_value.Truth.{Truth}
use Rattle.sql_eval.specs.declared.truth_value.Truth.TheVariants.{True, False, Unknown}
use Rattle.exec_join.specs.Filter.{keeps}

-- what is not true is not kept
pub not_kept : (t : Truth) → (t ≡ True → ⊥) → keeps t ≡ false
not_kept True h = absurd (h refl)
not_kept False h = refl
not_kept Unknown h = refl

-- within a list no default is read
any_default : {X : Type 0} (xs : List X) (i : ℕ) (d e : X) → i < length xs → get_or xs i d ≡ get_or xs i e
any_default [] i d e lt = absurd (omega arith)
any_default (x ∷ xs) zero d e lt = refl
any_default (x ∷ xs) (suc i) d e lt = any_default xs i d e (omega arith)

left_first : {X : Type 0} (xs : List X) (i : ℕ) (d : X) → get_or (drop i xs) 0 d ≡ get_or xs i d
left_first [] zero d = refl
left_first [] (suc i) d = refl
left_first (x ∷ xs) zero d = refl
left_first (x ∷ xs) (suc i) d = left_first xs i d

module _ {X : Type 0} (p : X → Bool) (xs ys : List X) (k i : ℕ) (d : X) (h : FiltersInPlace p xs ys k i) (lt : i < length ys) where
  -- what held of all at first holds of what an iteration reads
  pub holds_here : (P : X → Type 0) → All P xs → P (get_or ys i d)
  holds_here P all =
      let first : get_or xs i d ≡ get_or ys i d = sym (left_first xs i d) ∙ ap (λ zs. get_or zs 0 d) (sym h.rest) ∙ left_first ys i d in
      subst P first (all i d (omega (arith, h.long)))

  -- it goes to the front where it passes
  pub more_kept : p (get_or ys i d) ≡ true → FiltersInPlace p xs (set ys k (get_or ys i d)) (k + 1) (i + 1)
  more_kept e = FiltersInPlace-more_set h lt e (any_default ys i d (get_or ys i d) lt)

  pub more_left : p (get_or ys i d) ≡ false → FiltersInPlace p xs ys k (i + 1)
  more_left e = FiltersInPlace-more_no h lt e (any_default ys i d (get_or ys i d) lt)

-- a filter of what is made of places
by_one : {A B : Type 0} (f : A → B) (a : A) (t : Bool) (xs : List A) (ys : List B) → ys ≡ map f xs → cond t (f a ∷ ys) ys ≡ map f (cond t (a ∷ xs) xs)
by_one f a true xs ys e = λ i. f a ∷ e i
by_one f a false xs ys e = e

pub filter_made : {A B : Type 0} (f : A → B) (p : B → Bool) (xs : List A) → filter p (map f xs) ≡ map f (filter (λ x. p (f x)) xs)
filter_made f p [] = refl
filter_made f p (x ∷ xs) = by_one f x (p (f x)) (filter (λ y. p (f y)) xs) (filter p (map f xs)) (filter_made f p xs)

-- what holds of all that is made holds of what it is made of
pub all_made : {A B : Type 0} (f : A → B) (P : B → Type 0) (xs : List A) → All P (map f xs) → All (λ x. P (f x)) xs
all_made f P [] h = All-nil (λ y. P (f y))
all_made f P (x ∷ xs) h = All-cons (λ y. P (f y)) x xs (All-head P (f x) (map f xs) h) (all_made f P xs (All-tail P (f x) (map f xs) h))
