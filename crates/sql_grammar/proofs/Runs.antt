-- Maximal runs of bytes that pass a test: a list begins with one, and goes on outside.
use Rattle.std.proofs.Common.{◌≡◌, ◌∙◌, refl, ℕ, suc, ◌+◌, ◌<◌, Bool, true, List, [], ◌∷◌, ◌++◌, length, take, drop, arith, ap, sym, subst}
use Rattle.std.specs.Prelude.{reverse}
use Rattle.std.specs.List.{list_all, prefix_len}
use Rattle.std.proofs.lemmas.Bool.{and_from, and_parts, cond-false, cond-true, cond_both}
use Rattle.std.proofs.lemmas.List.{drop_at, take_at, reverse-append}
use Rattle.std.proofs.lemmas.List.Folds.{list_all-append}
use Rattle.sql_tokens.specs.Tokens.{BeginsOutside}

pub one-more : (n : ℕ) → suc n ≡ 1 + n
one-more n = omega arith

module _ (test : ℕ → Bool) where
  -- what passes and then something outside: the run is what passes
  pub prefix_len-run : (run rest : List ℕ) → list_all test run ≡ true → BeginsOutside test rest → prefix_len test (run ++ rest) ≡ length run
  prefix_len-run [] [] passes outside = refl
  prefix_len-run [] (c ∷ rest) passes outside = cond-false (test c) _ _ outside
  prefix_len-run (c ∷ run) rest passes outside =
      let both = and_parts (test c) (list_all test run) passes in
      let more : prefix_len test (run ++ rest) ≡ length run = prefix_len-run run rest both.1 outside in
      cond-true (test c) _ _ both.0 ∙ omega arith

  pub take-run : (run rest : List ℕ) → list_all test run ≡ true → BeginsOutside test rest → take (prefix_len test (run ++ rest)) (run ++ rest) ≡ run
  take-run run rest passes outside = take_at run rest _ (sym (prefix_len-run run rest passes outside))

  pub drop-run : (run rest : List ℕ) → list_all test run ≡ true → BeginsOutside test rest → drop (prefix_len test (run ++ rest)) (run ++ rest) ≡ rest
  drop-run run rest passes outside = drop_at run rest _ (sym (prefix_len-run run rest passes outside))

  -- the run that a list begins with passes, and what follows it is outside
  pub run_passes : (bytes : List ℕ) → list_all test (take (prefix_len test bytes) bytes) ≡ true
  run_passes [] = refl
  run_passes (c ∷ bytes) =
      cond_both
      (test c)
      (1 + prefix_len test bytes)
      0
      (λ n. list_all test (take n (c ∷ bytes)) ≡ true)
      (λ passes. subst (λ n. list_all test (take n (c ∷ bytes)) ≡ true) (one-more _) (and_from (test c) (list_all test (take (prefix_len test bytes) bytes)) passes (run_passes bytes)))
      (λ _. refl)

  pub rest_outside : (bytes : List ℕ) → BeginsOutside test (drop (prefix_len test bytes) bytes)
  rest_outside [] = tt
  rest_outside (c ∷ bytes) =
      cond_both
      (test c)
      (1 + prefix_len test bytes)
      0
      (λ n. BeginsOutside test (drop n (c ∷ bytes)))
      (λ _. subst (λ n. BeginsOutside test (drop n (c ∷ bytes))) (one-more _) (rest_outside bytes))
      (λ fails. fails)

  -- the front of what begins outside, and what begins with such a front
  pub outside-front : (front rest : List ℕ) → BeginsOutside test (front ++ rest) → BeginsOutside test front
  outside-front [] rest outside = tt
  outside-front (c ∷ front) rest outside = outside

  pub outside-append : (front rest : List ℕ) → 0 < length front → BeginsOutside test front → BeginsOutside test (front ++ rest)
  outside-append [] rest some outside = absurd (omega arith)
  outside-append (c ∷ front) rest some outside = outside

  pub passes-reverse : (bytes : List ℕ) → list_all test bytes ≡ true → list_all test (reverse bytes) ≡ true
  passes-reverse [] passes = refl
  passes-reverse (c ∷ bytes) passes =
      let both = and_parts (test c) (list_all test bytes) passes in
      let turned : reverse (c ∷ bytes) ≡ reverse bytes ++ (c ∷ []) = reverse-append (c ∷ []) bytes in
      ap (list_all test) turned ∙ list_all-append test (reverse bytes) (c ∷ []) ∙ and_from _ _ (passes-reverse bytes both.1) (and_from (test c) true both.0 refl)
