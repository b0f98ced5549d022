-- Longest runs of bytes that pass a test, and options.
use Rattle.std.proofs.Common.{◌≡◌, ◌∙◌, refl, ℕ, suc, ◌+◌, Bool, true, List, [], ◌∷◌, ◌++◌, length, take, drop, arith, sym, subst, Option, Some, None}
use Rattle.std.specs.Prelude.{option_map}
use Rattle.std.specs.List.{list_all, prefix_len}
use Rattle.std.proofs.lemmas.Bool.{and_from, and_parts, cond-false, cond-true, cond_both}
use Rattle.std.proofs.lemmas.List.{take_at}
use Rattle.std.proofs.lemmas.Option.{none-some, same_Some}
use Rattle.sql_tokens.specs.Tokens.{BeginsOutside}

pub one-more : (n : ℕ) → suc n ≡ 1 + n
one-more n = omega arith

-- what gives something when it is mapped
pub map_some : {A B : Type 0} (f : A → B) (o : Option A) (y : B) → option_map f o ≡ Some y → (x : A) × (o ≡ Some x) × (f x ≡ y)
map_some f None y h = absurd (none-some y h)
map_some f (Some x) y h = (x, refl, same_Some (f x) y h)

module _ (test : ℕ → Bool) where
  -- what passes and then something outside: the run is what passes
  pub prefix_len-run : (run rest : List ℕ) → list_all test run ≡ true → BeginsOutside test rest → prefix_len test (run ++ rest) ≡ length run
  prefix_len-run [] [] passes outside = refl
  prefix_len-run [] (c ∷ rest) passes outside = cond-false (test c) _ _ outside
  prefix_len-run (c ∷ run) rest passes outside =
      let both = and_parts (test c) (list_all test run) passes in
      let more : prefix_len test (run ++ rest) ≡ length run = prefix_len-run run rest both.1 outside in
      cond-true (test c) _ _ both.0 ∙ omega arith

  pub take-run : (run rest : List ℕ) → list_all test run ≡ true → BeginsOutside test rest → take (prefix_len test (run ++ rest)) (run ++ rest) ≡ run
  take-run run rest passes outside = take_at run rest _ (sym (prefix_len-run run rest passes outside))

  -- the run that a list begins with passes, and what follows it is outside
  pub run_passes : (bytes : List ℕ) → list_all test (take (prefix_len test bytes) bytes) ≡ true
  run_passes [] = refl
  run_passes (c ∷ bytes) =
      cond_both
      (test c)
      (1 + prefix_len test bytes)
      0
      (λ n. list_all test (take n (c ∷ bytes)) ≡ true)
      (λ passes. subst (λ n. list_all test (take n (c ∷ bytes)) ≡ true) (one-more _) (and_from (test c) (list_all test (take (prefix_len test bytes) bytes)) passes (run_passes bytes)))
      (λ _. refl)

  pub rest_outside : (bytes : List ℕ) → BeginsOutside test (drop (prefix_len test bytes) bytes)
  rest_outside [] = tt
  rest_outside (c ∷ bytes) =
      cond_both
      (test c)
      (1 + prefix_len test bytes)
      0
      (λ n. BeginsOutside test (drop n (c ∷ bytes)))
      (λ _. subst (λ n. BeginsOutside test (drop n (c ∷ bytes))) (one-more _) (rest_outside bytes))
      (λ fails. fails)

  -- a list that begins with a byte that passes begins with a run
  pub run-some : (c : ℕ) (bytes : List ℕ) → test c ≡ true → prefix_len test (c ∷ bytes) ≡ suc (prefix_len test bytes)
  run-some c bytes passes = cond-true (test c) _ _ passes ∙ sym (one-more _)
