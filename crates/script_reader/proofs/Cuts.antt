-- Where the text of a piece may be cut.
use Rattle.std.proofs.Common.{◌≡◌, ℕ, zero, suc, ◌<◌, true, false, List, length, get_or, arith, subst, sym, add-one}
use Rattle.std.specs.List.{prefix_len}
use Rattle.std.specs.Str.{IsUtf8, IsCharBoundary}
use Rattle.std.proofs.lemmas.Str.{IsCharBoundary-start, IsCharBoundary-after_ascii}
use Rattle.std.proofs.lemmas.List.Sums.{prefix_len_passes, prefix_len_stops, prefix_len-le-length}
use Rattle.std.proofs.lemmas.Bool.Decides.{nat_tests}
use Rattle.script_reader.specs.Pieces.{is_gap, is_in_word}

gap_is_ascii : (c : ℕ) → is_gap c ≡ true → c < 128
gap_is_ascii c h = grind (arith, nat_tests)

blank_is_ascii : (c : ℕ) → is_in_word c ≡ false → c < 128
blank_is_ascii c h = grind (arith, nat_tests)

past_passing : (n : ℕ) (bs : List ℕ) → IsUtf8 bs → n ≡ prefix_len is_gap bs → IsCharBoundary bs n
past_passing zero bs u e = IsCharBoundary-start bs u
past_passing (suc n) bs u e =
    let within : n < length bs = omega (arith, prefix_len-le-length is_gap bs) in
    let ascii : get_or bs n 0 < 128 = gap_is_ascii _ (prefix_len_passes is_gap bs n 0 (omega arith)) in
    rw add-one at (IsCharBoundary-after_ascii bs n u within ascii)

-- behind the spaces and tabs that stand first
pub IsCharBoundary-past_gap : (bs : List ℕ) → IsUtf8 bs → (n : ℕ) → n ≡ prefix_len is_gap bs → IsCharBoundary bs n
IsCharBoundary-past_gap bs u n e = past_passing n bs u e

-- behind the bytes of a word
pub IsCharBoundary-past_word : (bs : List ℕ) → (n : ℕ) → n ≡ prefix_len is_in_word bs → IsCharBoundary bs n
IsCharBoundary-past_word bs n e = (
  omega (arith, prefix_len-le-length is_in_word bs),
  λ within above. absurd (omega (arith, blank_is_ascii (get_or bs n 0) (subst (λ k. is_in_word (get_or bs k 0) ≡ false) (sym e) (prefix_len_stops is_in_word bs 0 (omega arith))))),
)
