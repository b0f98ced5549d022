-- Where a text token ends.
use Rattle.std.proofs.Common.{◌≡◌, ◌∙◌, refl, ℕ, suc, ◌+◌, ◌<◌, ◌≤◌, true, false, List, [], ◌∷◌, ◌++◌, length, take, drop, arith, ap, sym, subst, Some, inl, inr}
use Rattle.std.specs.Prelude.{option_map, not}
use Rattle.std.proofs.lemmas.Bool.{cases_Bool, cond-false, cond-true, eqb-true}
use Rattle.std.proofs.lemmas.List.{length-append, take_at}
use Rattle.std.proofs.lemmas.Option.{none-some, same_Some}
use Rattle.sql_tokens.specs.Forms.{is_quote, doubled, between}
use Rattle.sql_tokens.specs.Tokens.{BeginsOutside}
use Rattle.sql_tokens.specs.Scan.{text_len}
use Rattle.sql_tokens.specs.Values.{undoubled, between_quotes, text_value}
use Rattle.sql_tokens.proofs.Runs.{map_some}

-- ---- one step

pub doubled-quote : (c : ℕ) (cs : List ℕ) → is_quote c ≡ true → doubled (c ∷ cs) ≡ c ∷ c ∷ doubled cs
doubled-quote c cs h = cond-true (is_quote c) _ _ h

pub doubled-other : (c : ℕ) (cs : List ℕ) → is_quote c ≡ false → doubled (c ∷ cs) ≡ c ∷ doubled cs
doubled-other c cs h = cond-false (is_quote c) _ _ h

pub text_len-other : (c : ℕ) (ys : List ℕ) → is_quote c ≡ false → text_len (c ∷ ys) ≡ option_map (λ n. 1 + n) (text_len ys)
text_len-other c [] h = cond-false (is_quote c) _ _ h
text_len-other c (d ∷ ys) h = cond-true _ _ _ (ap (λ b. not b) h)

pub text_len-quotes : (c d : ℕ) (ys : List ℕ) → is_quote c ≡ true → is_quote d ≡ true → text_len (c ∷ d ∷ ys) ≡ option_map (λ n. 2 + n) (text_len ys)
text_len-quotes c d ys h k = cond-false _ _ _ (ap (λ b. not b) h) ∙ cond-true (is_quote d) _ _ k

pub text_len-end : (c : ℕ) (ys : List ℕ) → is_quote c ≡ true → BeginsOutside is_quote ys → text_len (c ∷ ys) ≡ Some 1
text_len-end c [] h outside = cond-true (is_quote c) _ _ h
text_len-end c (d ∷ ys) h outside = cond-false _ _ _ (ap (λ b. not b) h) ∙ cond-false (is_quote d) _ _ outside

-- ---- a value in quotes is found

pub text_len-found : (value rest : List ℕ) → BeginsOutside is_quote rest → text_len ((doubled value ++ 39 ∷ []) ++ rest) ≡ Some (length (doubled value) + 1)
text_len-found [] rest outside = text_len-end 39 rest refl outside
text_len-found (c ∷ cs) rest outside =
    let tail : List ℕ = (doubled cs ++ 39 ∷ []) ++ rest in
    let more : text_len tail ≡ Some (length (doubled cs) + 1) = text_len-found cs rest outside in
    elim (cases_Bool (is_quote c)) [
      | inl h ↦
          ap (λ (xs : List ℕ). text_len ((xs ++ 39 ∷ []) ++ rest)) (doubled-quote c cs h)
          ∙ text_len-quotes c c tail h h
          ∙ ap (option_map (λ n. 2 + n)) more
          ∙ ap Some (let e : length (doubled (c ∷ cs)) ≡ 2 + length (doubled cs) = ap length (doubled-quote c cs h) ∙ omega arith in omega arith)
      | inr h ↦
          ap (λ (xs : List ℕ). text_len ((xs ++ 39 ∷ []) ++ rest)) (doubled-other c cs h)
          ∙ text_len-other c tail h
          ∙ ap (option_map (λ n. 1 + n)) more
          ∙ ap Some (let e : length (doubled (c ∷ cs)) ≡ 1 + length (doubled cs) = ap length (doubled-other c cs h) ∙ omega arith in omega arith)
    ]

-- ---- what is found is a value in quotes

-- The first n bytes are a value, its quotes doubled, and a quote, and no quote follows them.
pub record EndsText (bytes : List ℕ) (n : ℕ) : Type 0 where
  pub value : List ℕ
  pub front : take n bytes ≡ doubled value ++ 39 ∷ []
  pub outside : BeginsOutside is_quote (drop n bytes)
  pub some : 0 < n
  pub inside : n ≤ length bytes

ends_here : (c : ℕ) (ys : List ℕ) → is_quote c ≡ true → BeginsOutside is_quote ys → EndsText (c ∷ ys) 1
ends_here c ys h outside = record { value = []; front = ap (λ d. d ∷ []) (eqb-true c 39 h); outside = outside; some = omega arith; inside = omega arith }

ends_past : (c : ℕ) (ys : List ℕ) (n : ℕ) → is_quote c ≡ false → EndsText ys n → EndsText (c ∷ ys) (suc n)
ends_past c ys n h e =
    record {
      value = c ∷ e.value;
      front = ap (λ xs. c ∷ xs) e.front ∙ ap (λ xs. xs ++ 39 ∷ []) (sym (doubled-other c e.value h));
      outside = e.outside;
      some = omega arith;
      inside = let inside = e.inside in omega arith;
    }

ends_past_quotes : (c d : ℕ) (ys : List ℕ) (n : ℕ) → is_quote c ≡ true → is_quote d ≡ true → EndsText ys n → EndsText (c ∷ d ∷ ys) (suc (suc n))
ends_past_quotes c d ys n h k e =
    let same : d ≡ c = eqb-true d 39 k ∙ sym (eqb-true c 39 h) in
    record {
      value = c ∷ e.value;
      front = ap (λ xs. c ∷ d ∷ xs) e.front ∙ ap (λ x. c ∷ x ∷ (doubled e.value ++ 39 ∷ [])) same ∙ ap (λ xs. xs ++ 39 ∷ []) (sym (doubled-quote c e.value h));
      outside = e.outside;
      some = omega arith;
      inside = let inside = e.inside in omega arith;
    }

pub text_len-ends : (bytes : List ℕ) (n : ℕ) → text_len bytes ≡ Some n → EndsText bytes n
text_len-ends [] n h = absurd (none-some n h)
text_len-ends (c ∷ []) n h =
    elim (cases_Bool (is_quote c)) [
      | inl q ↦ subst (EndsText (c ∷ [])) (same_Some 1 n (sym (text_len-end c [] q tt) ∙ h)) (ends_here c [] q tt)
      | inr q ↦ absurd (none-some n (sym (text_len-other c [] q) ∙ h))
    ]
text_len-ends (c ∷ d ∷ cs) n h =
    elim (cases_Bool (is_quote c)) [
      | inl q ↦
          elim (cases_Bool (is_quote d)) [
            | inl k ↦
                let found = map_some (λ m. 2 + m) (text_len cs) n (sym (text_len-quotes c d cs q k) ∙ h) in
                let same : suc (suc found.0) ≡ n = let e = found.2 in omega arith in
                subst (EndsText (c ∷ d ∷ cs)) same (ends_past_quotes c d cs found.0 q k (text_len-ends cs found.0 found.1))
            | inr k ↦ subst (EndsText (c ∷ d ∷ cs)) (same_Some 1 n (sym (text_len-end c (d ∷ cs) q k) ∙ h)) (ends_here c (d ∷ cs) q k)
          ]
      | inr q ↦
          let found = map_some (λ m. 1 + m) (text_len (d ∷ cs)) n (sym (text_len-other c (d ∷ cs) q) ∙ h) in
          let same : suc found.0 ≡ n = let e = found.2 in omega arith in
          subst (EndsText (c ∷ d ∷ cs)) same (ends_past c (d ∷ cs) found.0 q (text_len-ends (d ∷ cs) found.0 found.1))
    ]

-- ---- the value between quotes

pub between-quotes : (mark : ℕ) (bytes : List ℕ) → between_quotes (between mark bytes) ≡ bytes
between-quotes mark bytes = take_at bytes (mark ∷ []) _ (let e : length (between mark bytes) ≡ suc (length (bytes ++ mark ∷ [])) = refl in omega (arith, length-append bytes (mark ∷ [])))

undoubled-quotes : (c d : ℕ) (cs : List ℕ) → is_quote c ≡ true → undoubled (c ∷ d ∷ cs) ≡ c ∷ undoubled cs
undoubled-quotes c d cs h = cond-true (is_quote c) _ _ h

undoubled-other : (c : ℕ) (cs : List ℕ) → is_quote c ≡ false → undoubled (c ∷ cs) ≡ c ∷ undoubled cs
undoubled-other c [] h = refl
undoubled-other c (d ∷ cs) h = cond-false (is_quote c) _ _ h

pub undoubled-doubled : (value : List ℕ) → undoubled (doubled value) ≡ value
undoubled-doubled [] = refl
undoubled-doubled (c ∷ cs) =
    let more : undoubled (doubled cs) ≡ cs = undoubled-doubled cs in
    elim (cases_Bool (is_quote c)) [
      | inl h ↦ ap undoubled (doubled-quote c cs h) ∙ undoubled-quotes c c (doubled cs) h ∙ ap (λ xs. c ∷ xs) more
      | inr h ↦ ap undoubled (doubled-other c cs h) ∙ undoubled-other c (doubled cs) h ∙ ap (λ xs. c ∷ xs) more
    ]

pub quoted_name-between : (name : List ℕ) → between_quotes (between 34 name) ≡ name
quoted_name-between name = between-quotes 34 name

pub text_value-between : (value : List ℕ) → text_value (between 39 (doubled value)) ≡ value
text_value-between value = ap undoubled (between-quotes 39 (doubled value)) ∙ undoubled-doubled value
