-- Numbers in digits.
use Rattle.std.proofs.Common.{◌≡◌, ℕ, zero, suc, ◌+◌, ◌-◌, ◌*◌, ◌/◌, ◌%◌, ◌<◌, ◌≤◌, Bool, true, false, List, [], ◌∷◌, length, drop, get_or, Option, Some, None, arith, refl, ap, sym, ◌∙◌, add-one, drop-cons, ⊎_elim}
use Rattle.std.specs.Prelude.{◌==◌, ◌&&◌, nat_lt, if◌then◌else◌}
use Rattle.std.proofs.lemmas.Bool.{cases_lt, lt-ltb, le-ltb, ltb-false, eqb-true, false≢true}
use Rattle.std.proofs.lemmas.List.{at_drop_all}
use Rattle.std.proofs.lemmas.Bool.Decides.{nat_tests}
use Rattle.script_reader.specs.Pieces.{is_digit, number_behind, number_of, at_most, session_of, place_of, most_lines}
use Rattle.script_reader.specs.Sessions.{IsSession, most_sessions}

-- ---- digit by digit
number_step : (number : ℕ) (c : ℕ) (digits : List ℕ) → is_digit c ≡ true → number_behind number (c ∷ digits) ≡ number_behind (number * 10 + (c - 48)) digits
number_step number c digits e = rw e refl

number_stop : (number : ℕ) (c : ℕ) (digits : List ℕ) → is_digit c ≡ false → number_behind number (c ∷ digits) ≡ None
number_stop number c digits e = rw e refl

left_at : (word : List ℕ) (i : ℕ) → i < length word → drop i word ≡ get_or word i 0 ∷ drop (i + 1) word
left_at word i h = rw (add-one, drop-cons word i 0) refl

-- A number does not fall as digits are added.
pub number_grows : (number : ℕ) (digits : List ℕ) (value : ℕ) → number_behind number digits ≡ Some value → number ≤ value
number_grows number [] value e = let same : number ≡ value = cc in omega arith
number_grows number (c ∷ digits) value e =
    elim (is_digit c) as (λ b. (if b then number_behind (number * 10 + (c - 48)) digits else None) ≡ Some value → number ≤ value) [
      | true ↦ λ more. omega (arith, number_grows (number * 10 + (c - 48)) digits value more)
      | false ↦ λ none. absurd (cc)
    ] e

too_big : (most number : ℕ) (digits : List ℕ) → most < number → at_most most (number_behind number digits) ≡ None
too_big most number digits h = by (number_behind number digits) refl where
  by : (found : Option ℕ) → number_behind number digits ≡ found → at_most most found ≡ None
  by None e = refl
  by (Some value) e = let big = lt-ltb most value (omega (arith, h, number_grows number digits value e)) in rw big refl

module _ (most number i : ℕ) (word : List ℕ) (rest : at_most most (number_behind number (drop i word)) ≡ at_most most (number_behind 0 word)) where
  pub digit_passes : i < length word → is_digit (get_or word i 0) ≡ true → at_most most (number_behind (number * 10 + (get_or word i 0 - 48)) (drop (i + 1) word)) ≡ at_most most (number_behind 0 word)
  digit_passes within digit =
      ap (at_most most) (sym (number_step number (get_or word i 0) (drop (i + 1) word) digit))
      ∙ ap (λ ds. at_most most (number_behind number ds)) (sym (left_at word i within))
      ∙ rest

  pub digit_fails : i < length word → is_digit (get_or word i 0) ≡ false → None ≡ at_most most (number_behind 0 word)
  digit_fails within other =
      ap (at_most most) (sym (number_stop number (get_or word i 0) (drop (i + 1) word) other))
      ∙ ap (λ ds. at_most most (number_behind number ds)) (sym (left_at word i within))
      ∙ rest

  pub digit_passes_most : i < length word → is_digit (get_or word i 0) ≡ true → most < number * 10 + (get_or word i 0 - 48) → None ≡ at_most most (number_behind 0 word)
  digit_passes_most within digit big = sym (too_big most (number * 10 + (get_or word i 0 - 48)) (drop (i + 1) word) big) ∙ digit_passes within digit

  pub digits_end : i ≡ length word → number ≤ most → Some number ≡ at_most most (number_behind 0 word)
  digits_end all small =
      let none_left : drop i word ≡ [] = at_drop_all (λ ds. ds) word i (omega arith) in
      let e = le-ltb most number small in
      let here : Some number ≡ at_most most (Some number) = rw e refl in
      here ∙ ap (λ ds. at_most most (number_behind number ds)) (sym none_left) ∙ rest

-- ---- sessions
-- The number of a session that a word writes is one.
above_zero : (c : ℕ) (digits : List ℕ) (number : ℕ) → (if c == 48 then None else number_behind 0 (c ∷ digits)) ≡ Some number → 1 ≤ number
above_zero c digits number e = by (c == 48) (is_digit c) refl refl e where
  by : (none digit : Bool) → (c == 48) ≡ none → is_digit c ≡ digit → (if none then None else number_behind 0 (c ∷ digits)) ≡ Some number → 1 ≤ number
  by true digit is-none is-digit found = absurd (cc)
  by false true is-none is-digit found =
      let grown = number_grows (0 * 10 + (c - 48)) digits number (sym (number_step 0 c digits is-digit) ∙ found) in
      omega (arith, grown, past_zero c is-none is-digit)
    where
      past_zero : (c : ℕ) → (c == 48) ≡ false → is_digit c ≡ true → 48 < c
      past_zero c other digit = grind (arith, nat_tests)
  by false false is-none is-digit found = let stop = number_stop 0 c digits is-digit in absurd (cc)

pub number_from_one : (word : List ℕ) (number : ℕ) → number_of word ≡ Some number → 1 ≤ number
number_from_one [] number e = absurd (cc)
number_from_one (c ∷ digits) number e = above_zero c digits number e

pub at_most-is : (most : ℕ) (found : Option ℕ) (number : ℕ) → at_most most found ≡ Some number → (found ≡ Some number) × (number ≤ most)
at_most-is most None number e = absurd (cc)
at_most-is most (Some n) number e = by (nat_lt most n) refl e where
  by : (big : Bool) → nat_lt most n ≡ big → (if big then None else Some n) ≡ Some number → (◌≡◌ {A = Option ℕ} (Some n) (Some number)) × (number ≤ most)
  by true is found = absurd (cc)
  by false is found = let same : n ≡ number = cc in (found, omega (arith, ltb-false most n is))

pub session_known : (word : List ℕ) (session : ℕ) → session_of word ≡ Some session → IsSession session
session_known word session e = let at = at_most-is most_sessions (number_of word) session e in (number_from_one word session at.0, at.1)

pub place_from_one : (word : List ℕ) (place : ℕ) → place_of word ≡ Some place → 0 < place
place_from_one word place e = let first = number_from_one word place (at_most-is most_lines (number_of word) place e).0 in omega (arith, first)

-- Each session can be written.
digits_of : ℕ → List ℕ
digits_of s = if nat_lt s 10 then (48 + s) ∷ [] else (48 + s / 10) ∷ (48 + s % 10) ∷ []

abbrev is_found : Option ℕ → ℕ → Bool
is_found None s = false
is_found (Some n) s = n == s

are_written : ℕ → Bool
are_written zero = true
are_written (suc s) = is_found (session_of (digits_of (suc s))) (suc s) && are_written s

found_is : (found : Option ℕ) (s : ℕ) → is_found found s ≡ true → found ≡ Some s
found_is None s e = absurd (false≢true e)
found_is (Some n) s e = ap Some (eqb-true n s e)

both : (a b : Bool) → (a && b) ≡ true → (a ≡ true) × (b ≡ true)
both true b e = (refl, e)
both false b e = absurd (false≢true e)

one_written : (most s : ℕ) → are_written most ≡ true → 1 ≤ s → s ≤ most → session_of (digits_of s) ≡ Some s
unfolding are_written
one_written zero s all first last = absurd (omega (arith, first, last))
one_written (suc most) s all first last =
    let parts = both (is_found (session_of (digits_of (suc most))) (suc most)) (are_written most) all in
    ⊎_elim
    (λ below. one_written most s parts.1 first (omega (arith, below)))
    (λ above. let same : suc most ≡ s = omega (arith, above, last) in
    (λ i. session_of (digits_of (sym same i))) ∙ found_is (session_of (digits_of (suc most))) (suc most) parts.0 ∙ ap Some same)
    (cases_lt s (suc most))

all_written : are_written 64 ≡ true
unfolding are_written digits_of
all_written = refl

pub session_written : (session : ℕ) → IsSession session → (word : List ℕ) × (session_of word ≡ Some session)
session_written session h = (digits_of session, one_written 64 session all_written h.0 h.1)
