-- The first rows in order, found from the last row to the first.
use Rattle.std.proofs.Common.{◌≡◌, ◌∙◌, ℕ, zero, suc, ◌+◌, ◌-◌, ◌<◌, ◌≤◌, drop, get_or, List, [], ◌∷◌, ◌++◌, Bool, true, false, cond, map, take, length, is_lt, true≢false, refl, sym, ap, subst, arith}
use Rattle.std.specs.Prelude.{insert}
use Rattle.std.specs.List.{prefix_len}
use Rattle.std.specs.List.{AllByRecursion as EachIs}
use Rattle.std.proofs.lemmas.Bool.{cond-true}
use Rattle.std.proofs.lemmas.List.{drop_more, take-append-le, take-map, map-append, length-map}
use Rattle.indexmap.proofs.SetLemmas.{map-insert}
use Rattle.row_columns.specs.Contents.{Output}
use Rattle.row_columns.specs.Column.{Values}
use Rattle.exec_finish.specs.Order.{key_order, row_order, put_in, ordered}
use Rattle.exec_finish.specs.Keyed.{HaveKeys, number_order, IsBeyond}
use Rattle.exec_finish.proofs.Sorting.{before, IsStrictWeakOrder-before, Rises, rises_ordered}

take_less : {A : Type 0} (k : ℕ) (xs : List A) → take k (take (suc k) xs) ≡ take k xs
take_less zero xs = refl
take_less (suc k) [] = refl
take_less {A} (suc k) (x ∷ xs) = ap (λ (rest : List A). x ∷ rest) (take_less k xs)

take_twice : {A : Type 0} (n : ℕ) (xs : List A) → take n (take n xs) ≡ take n xs
take_twice zero xs = refl
take_twice (suc n) [] = refl
take_twice {A} (suc n) (x ∷ xs) = ap (λ (rest : List A). x ∷ rest) (take_twice n xs)

take_one_more : {A : Type 0} (k : ℕ) (x : A) (xs : List A) → take k (x ∷ take k xs) ≡ take k (x ∷ xs)
take_one_more zero x xs = refl
take_one_more {A} (suc k) x xs = ap (λ (rest : List A). x ∷ rest) (take_less k xs)

front-map : {A B : Type 0} (f : A → B) (p : B → Bool) (q : A → Bool) → ((a : A) → p (f a) ≡ q a) → (xs : List A) → prefix_len p (map f xs) ≡ prefix_len q xs
front-map f p q same [] = refl
front-map f p q same (x ∷ xs) = λ i. cond (same x i) (1 + front-map f p q same xs i) 0

EachIs-last : {A : Type 0} (P : A → Type 0) (front : List A) (last : A) → EachIs P (front ++ last ∷ []) → P last
EachIs-last P [] last h = h.0
EachIs-last P (x ∷ front) last h = EachIs-last P front last h.1

EachIs-take : {A : Type 0} (P : A → Type 0) (k : ℕ) (xs : List A) → EachIs P xs → EachIs P (take k xs)
EachIs-take P zero xs h = tt
EachIs-take P (suc k) [] h = tt
EachIs-take P (suc k) (x ∷ xs) h = (h.0, EachIs-take P k xs h.1)

-- where none may be kept none is
pub none_kept : {A : Type 0} (limit : ℕ) (kept xs ys : List A) → limit ≡ 0 → kept ≡ take limit xs → kept ≡ take limit ys
none_kept limit kept xs ys z e = e ∙ ap (λ l. take l xs) z ∙ sym (ap (λ l. take l ys) z)

-- from one place earlier on
pub drop_back : (ns : List ℕ) (left : ℕ) → 0 < left → left ≤ length ns → drop (left - 1) ns ≡ get_or ns (left - 1) 0 ∷ drop left ns
drop_back ns left some le =
    let next : (left - 1) + 1 ≡ left = omega arith in
    drop_more ns (left - 1) 0 (omega arith) ∙ ap (λ n. get_or ns (left - 1) 0 ∷ drop n ns) next

module _ (descending : List Bool) where
  -- a row put among the first rows
  first_put_in : (k : ℕ) (r : Output) (ss : List Output) → take k (put_in descending r (take k ss)) ≡ take k (put_in descending r ss)
  first_put_in zero r ss = refl
  first_put_in (suc k) r [] = refl
  first_put_in (suc k) r (s ∷ ss) = by (first_put_in k r ss) (before descending s r)
    where
      by : take k (put_in descending r (take k ss)) ≡ take k (put_in descending r ss) → (b : Bool) → take (suc k) (cond b (s ∷ put_in descending r (take k ss)) (r ∷ s ∷ take k ss)) ≡ take (suc k) (cond b (s ∷ put_in descending r ss) (r ∷ s ∷ ss))
      by more true = ap (λ (rest : List Output). s ∷ rest) more
      by more false = ap (λ (rest : List Output). r ∷ rest) (take_one_more k s ss)

  rises_take : (k : ℕ) (rs : List Output) → Rises descending rs → Rises descending (take k rs)
  unfolding Rises
  rises_take zero rs h = tt
  rises_take (suc k) [] h = tt
  rises_take (suc k) (r ∷ rs) h = (EachIs-take (λ s. before descending s r ≡ false) k rs h.0, rises_take k rs h.1)

  last_behind : (r s l : Output) → before descending l s ≡ false → before descending l r ≡ true → (b : Bool) → before descending s r ≡ b → b ≡ true
  last_behind r s l up h true e = refl
  last_behind r s l up h false e = absurd (true≢false (sym h ∙ (IsStrictWeakOrder-before descending).chain l s r up e))

  -- a row behind the last of rows in order is put behind all
  behind_last : (r l : Output) (front : List Output) → Rises descending (front ++ l ∷ []) → before descending l r ≡ true → put_in descending r (front ++ l ∷ []) ≡ (front ++ l ∷ []) ++ r ∷ []
  unfolding Rises
  behind_last r l [] up h = cond-true (before descending l r) (l ∷ r ∷ []) (r ∷ l ∷ []) h
  behind_last r l (s ∷ front) up h =
      let first : before descending s r ≡ true = last_behind r s l (EachIs-last (λ t. before descending t s ≡ false) front l up.0) h (before descending s r) refl in
      cond-true (before descending s r) (s ∷ put_in descending r (front ++ l ∷ [])) (r ∷ s ∷ (front ++ l ∷ [])) first
      ∙ ap (λ (rest : List Output). s ∷ rest) (behind_last r l front up.1 h)

  -- where a row is put
  put_at : (r : Output) (ss : List Output) → put_in descending r ss ≡ insert ss (prefix_len (λ s. before descending s r) ss) r
  put_at r [] = refl
  put_at r (s ∷ ss) = by (put_at r ss) (before descending s r)
    where
      n : ℕ
      n = prefix_len (λ t. before descending t r) ss

      one : suc n ≡ 1 + n
      one = omega arith

      by : put_in descending r ss ≡ insert ss n r → (b : Bool) → cond b (s ∷ put_in descending r ss) (r ∷ s ∷ ss) ≡ insert (s ∷ ss) (cond b (1 + n) 0) r
      by more true = ap (λ (rest : List Output). s ∷ rest) more ∙ ap (λ m. insert (s ∷ ss) m r) one
      by more false = refl

  module _ (columns : List Values) (row : ℕ → Output) (keyed : HaveKeys columns row) where
    same_order : (a b : ℕ) → row_order descending (row a) (row b) ≡ number_order descending columns a b
    same_order a b = λ i. key_order descending (keyed a i) (keyed b i)

    -- beyond the last of enough a row changes nothing
    pub put_beyond : (limit number : ℕ) (numbers : List ℕ) (rows : List Output) → IsBeyond descending columns limit number numbers → map row numbers ≡ take limit (ordered descending rows)
        → map row numbers ≡ take limit (ordered descending (row number ∷ rows))
    put_beyond limit number numbers rows beyond e =
        let firsts = map row numbers in
        let rising : Rises descending firsts = subst (Rises descending) (sym e) (rises_take limit (ordered descending rows) (rises_ordered descending rows)) in
        let ends : firsts ≡ map row beyond.front ++ row beyond.last ∷ [] = ap (map row) beyond.ends ∙ map-append row beyond.front (beyond.last ∷ []) in
        let later : before descending (row beyond.last) (row number) ≡ true = ap is_lt (same_order beyond.last number) ∙ beyond.behind in
        let put : put_in descending (row number) firsts ≡ firsts ++ row number ∷ [] =
        ap (put_in descending (row number)) ends ∙ behind_last (row number) (row beyond.last) (map row beyond.front) (subst (Rises descending) ends rising) later ∙ ap (λ (rs : List Output). rs ++ row number ∷ []) (sym ends) in
        let few : limit ≤ length firsts = omega (arith, beyond.full, length-map numbers row) in
        e ∙ sym (take_twice limit (ordered descending rows)) ∙ ap (take limit) (sym e) ∙ sym (take-append-le limit firsts (row number ∷ []) few) ∙ ap (take limit) (sym put)
        ∙ ap (λ (rs : List Output). take limit (put_in descending (row number) rs)) e ∙ first_put_in limit (row number) (ordered descending rows)

    -- put in its place it is among the first
    pub put_there : (limit number place : ℕ) (numbers : List ℕ) (rows : List Output) → place ≡ prefix_len (λ other. is_lt (number_order descending columns other number)) numbers
        → map row numbers ≡ take limit (ordered descending rows)
        → map row (take limit (insert numbers place number)) ≡ take limit (ordered descending (row number ∷ rows))
    put_there limit number place numbers rows at e =
        let firsts = map row numbers in
        let there : place ≡ prefix_len (λ s. before descending s (row number)) firsts =
        at ∙ sym (front-map row (λ s. before descending s (row number)) (λ other. is_lt (number_order descending columns other number)) (λ a. ap is_lt (same_order a number)) numbers) in
        sym (take-map row limit (insert numbers place number))
        ∙ ap (take limit) (map-insert row numbers place number ∙ ap (λ n. insert firsts n (row number)) there ∙ sym (put_at (row number) firsts))
        ∙ ap (λ (rs : List Output). take limit (put_in descending (row number) rs)) e ∙ first_put_in limit (row number) (ordered descending rows)
