-- Where a text may be cut: at the ends of bytes that pass a test which only ASCII passes.
use Rattle.std.proofs.Common.{◌≡◌, ◌∙◌, ℕ, zero, suc, ◌-◌, ◌<◌, ◌≤◌, Bool, true, List, ◌++◌, length, get_or, take, drop, arith, ap, subst, sym, add-one}
use Rattle.std.specs.Prelude.{reverse}
use Rattle.std.specs.List.{prefix_len, slice_range, suffix_len}
use Rattle.std.specs.Str.{IsUtf8, IsCharBoundary}
use Rattle.std.proofs.lemmas.Str.{IsCharBoundary-start, IsCharBoundary-after_ascii, IsCharBoundary-before_ascii, IsCharBoundary-end}
use Rattle.std.proofs.lemmas.List.{drop_at, get_or-reverse, length-drop, length-reverse, reverse-append, reverse-reverse, take-append-drop}
use Rattle.std.proofs.lemmas.List.Sums.{prefix_len_passes, prefix_len-le-length, suffix_len-le-length}
use Rattle.std.proofs.lemmas.Bool.Decides.{nat_tests}
use Rattle.sql_tokens.specs.Forms.{is_space, is_word_byte}
use Rattle.sql_tokens.specs.Ends.{skip_space, trim}

module _ (test : ℕ → Bool) (ascii : (c : ℕ) → test c ≡ true → c < 128) where
  behind_first : (n : ℕ) (bytes : List ℕ) → IsUtf8 bytes → n ≡ prefix_len test bytes → IsCharBoundary bytes n
  behind_first zero bytes u e = IsCharBoundary-start bytes u
  behind_first (suc n) bytes u e =
      let within : n < length bytes = omega (arith, prefix_len-le-length test bytes) in
      let passes : get_or bytes n 0 < 128 = ascii _ (prefix_len_passes test bytes n 0 (omega arith)) in
      rw add-one at (IsCharBoundary-after_ascii bytes n u within passes)

  before_last : (n : ℕ) (bytes : List ℕ) → n ≡ suffix_len test bytes → IsCharBoundary bytes (length bytes - n)
  before_last zero bytes e = subst (IsCharBoundary bytes) (omega arith) (IsCharBoundary-end bytes)
  before_last (suc n) bytes e =
      let within : n < length bytes = omega (arith, suffix_len-le-length test bytes) in
      let passes : get_or (reverse bytes) n 0 < 128 = ascii _ (prefix_len_passes test (reverse bytes) n 0 (omega arith)) in
      let place : length bytes - 1 - n ≡ length bytes - suc n = omega arith in
      IsCharBoundary-before_ascii bytes _ (omega arith) (subst (λ k. get_or bytes k 0 < 128) place (rw (get_or-reverse bytes n 0 within) at passes))

is_space-ascii : (c : ℕ) → is_space c ≡ true → c < 128
is_space-ascii c h = grind (arith, nat_tests)

is_word_byte-ascii : (c : ℕ) → is_word_byte c ≡ true → c < 128
is_word_byte-ascii c h = grind (arith, nat_tests)

-- behind the white space that stands first
pub IsCharBoundary-behind_space : (bytes : List ℕ) → IsUtf8 bytes → (n : ℕ) → n ≡ prefix_len is_space bytes → IsCharBoundary bytes n
IsCharBoundary-behind_space bytes u n e = behind_first is_space is_space-ascii n bytes u e

-- behind the word bytes that stand first
pub IsCharBoundary-behind_word : (bytes : List ℕ) → IsUtf8 bytes → (n : ℕ) → n ≡ prefix_len is_word_byte bytes → IsCharBoundary bytes n
IsCharBoundary-behind_word bytes u n e = behind_first is_word_byte is_word_byte-ascii n bytes u e

-- before the white space that stands last
pub IsCharBoundary-before_space : (bytes : List ℕ) (n : ℕ) → n ≡ suffix_len is_space bytes → IsCharBoundary bytes (length bytes - n)
IsCharBoundary-before_space bytes n e = before_last is_space is_space-ascii n bytes e

-- all but the last n, taken from either end
pub take-but-last : (n : ℕ) (bytes : List ℕ) → n ≤ length bytes → take (length bytes - n) bytes ≡ reverse (drop n (reverse bytes))
take-but-last n bytes within =
    let kept = length bytes - n in
    let apart : reverse bytes ≡ reverse (drop kept bytes) ++ reverse (take kept bytes) = ap reverse (sym (take-append-drop kept bytes)) ∙ reverse-append (take kept bytes) (drop kept bytes) in
    let many : length (reverse (drop kept bytes)) ≡ n = omega (arith, length-reverse (drop kept bytes), length-drop kept bytes) in
    sym (ap (λ (xs : List ℕ). reverse (drop n xs)) apart ∙ ap reverse (drop_at _ _ n many) ∙ reverse-reverse (take kept bytes))

-- a text without white space at its front, and then without as many bytes as are white space at its end
pub trim_is : (bytes begun kept : List ℕ) (n : ℕ) → begun ≡ skip_space bytes → n ≡ suffix_len is_space begun → kept ≡ slice_range begun 0 (length begun - n) → kept ≡ trim bytes
trim_is bytes begun kept n skipped many cut =
    cut
    ∙ ap (λ k. take k begun) (omega arith)
    ∙ take-but-last n begun (omega (arith, suffix_len-le-length is_space begun))
    ∙ ap (λ k. reverse (drop k (reverse begun))) many
    ∙ ap (λ (xs : List ℕ). reverse (skip_space (reverse xs))) skipped
