-- Where a text may be cut: before and behind a token, and inside its quotes.
use Rattle.std.proofs.Common.{◌≡◌, ◌∙◌, refl, ℕ, suc, ◌+◌, ◌-◌, ◌<◌, Bool, true, List, [], ◌∷◌, ◌++◌, length, get_or, drop, arith, ap, sym, subst}
use Rattle.std.specs.Char.{is_ascii_digit}
use Rattle.std.specs.List.{list_all}
use Rattle.std.specs.Str.{IsUtf8, IsCharBoundary}
use Rattle.std.proofs.lemmas.Bool.{and_from, and_parts, false≢true, or_left}
use Rattle.std.proofs.lemmas.Bool.Decides.{nat_tests}
use Rattle.std.proofs.lemmas.List.{get_or_at, get_or-drop, get_or-take, length-append}
use Rattle.std.proofs.lemmas.Str.{IsCharBoundary-after_ascii, IsCharBoundary-before_ascii}
use Rattle.sql_tokens.specs.declared.token_sort.TokenSort.{TokenSort}
use Rattle.sql_tokens.specs.declared.token_sort.TokenSort.TheVariants.{Word, Quoted, Numeral, Text, Symbol}
use Rattle.sql_tokens.specs.declared.token.Token.{Token}
use Rattle.sql_tokens.specs.Forms.{is_word_start, is_word_byte, is_sign, is_sign_pair, between, IsToken}
use Rattle.sql_tokens.specs.Tokens.{written, Stands}
use Rattle.sql_tokens.proofs.Scans.{span}
use Rattle.sql_tokens.proofs.Steps.{all-at}

-- The first byte and the last are ASCII.
pub record HasAsciiEnds (bytes : List ℕ) : Type 0 where
  pub first : get_or bytes 0 0 < 128
  pub last : get_or bytes (length bytes - 1) 0 < 128

word-ascii : (c : ℕ) → is_word_byte c ≡ true → c < 128
word-ascii c h = grind (arith, nat_tests)

digit-ascii : (c : ℕ) → is_ascii_digit c ≡ true → c < 128
digit-ascii c h = grind (arith, nat_tests)

sign-ascii : (c : ℕ) → is_sign c ≡ true → c < 128
sign-ascii c h = grind (arith, nat_tests)

pair-ascii : (c d : ℕ) → is_sign_pair c d ≡ true → (c < 128) × (d < 128)
pair-ascii c d h = (grind (arith, nat_tests), grind (arith, nat_tests))

all-ends : (test : ℕ → Bool) → ((c : ℕ) → test c ≡ true → c < 128) → (bytes : List ℕ) → 0 < length bytes → list_all test bytes ≡ true → HasAsciiEnds bytes
all-ends test ascii bytes some all = record { first = ascii _ (all-at test bytes 0 all some); last = ascii _ (all-at test bytes (length bytes - 1) all (omega arith)) }

between-ends : (mark : ℕ) (bytes : List ℕ) → mark < 128 → HasAsciiEnds (between mark bytes)
between-ends mark bytes ascii =
    let e : length (between mark bytes) ≡ suc (length (bytes ++ mark ∷ [])) = refl in
    let place : length (mark ∷ bytes) ≡ length (between mark bytes) - 1 = omega (arith, length-append bytes (mark ∷ [])) in
    record { first = ascii; last = subst (λ c. c < 128) (sym (get_or_at (mark ∷ bytes) mark [] 0 (length (between mark bytes) - 1) place)) ascii }

pub ascii-ends : (sort : TokenSort) (bytes : List ℕ) → IsToken sort bytes → HasAsciiEnds bytes
ascii-ends Word [] form = absurd (false≢true form)
ascii-ends Word (c ∷ cs) form =
    let both = and_parts (is_word_start c) (list_all is_word_byte cs) form in
    all-ends is_word_byte word-ascii (c ∷ cs) (omega arith) (and_from (is_word_byte c) (list_all is_word_byte cs) (or_left (is_word_start c) (is_ascii_digit c) both.0) both.1)
ascii-ends Quoted bytes form = subst HasAsciiEnds (sym form.1) (between-ends 34 form.0 (omega arith))
ascii-ends Numeral [] form = absurd (false≢true form)
ascii-ends Numeral (c ∷ cs) form = all-ends is_ascii_digit digit-ascii (c ∷ cs) (omega arith) (and_parts _ _ form).0
ascii-ends Text bytes form = subst HasAsciiEnds (sym form.1) (between-ends 39 _ (omega arith))
ascii-ends Symbol [] form = absurd (false≢true form)
ascii-ends Symbol (c ∷ []) form = record { first = sign-ascii c form; last = sign-ascii c form }
ascii-ends Symbol (c ∷ d ∷ []) form = record { first = (pair-ascii c d form).0; last = (pair-ascii c d form).1 }
ascii-ends Symbol (c ∷ d ∷ e ∷ bytes) form = absurd (false≢true form)

-- behind the first byte of a token
pub IsCharBoundary-behind_first : (sort : TokenSort) (bytes : List ℕ) → IsUtf8 bytes → 0 < length bytes → IsToken sort bytes → IsCharBoundary bytes 1
IsCharBoundary-behind_first sort bytes utf8 some form = IsCharBoundary-after_ascii bytes 0 utf8 some (ascii-ends sort bytes form).first

module _ (text : List ℕ) (token : Token) (stands : Stands text token) where
  written-at : (k : ℕ) → k < token.to - token.from → get_or (written text token) k 0 ≡ get_or text (token.from + k) 0
  written-at k within = get_or-take (token.to - token.from) (drop token.from text) k 0 within ∙ get_or-drop token.from text k 0

  pub IsCharBoundary-from : IsCharBoundary text token.from
  IsCharBoundary-from =
      let sp = span text token stands in
      let inside = stands.inside in
      let first : get_or (written text token) 0 0 < 128 = (ascii-ends token.sort (written text token) stands.form).first in
      let place : token.from + 0 ≡ token.from = omega arith in
      IsCharBoundary-before_ascii text token.from (omega (arith, sp.0)) (subst (λ c. c < 128) (written-at 0 (omega (arith, sp.0)) ∙ ap (λ k. get_or text k 0) place) first)

  pub IsCharBoundary-to : IsUtf8 text → IsCharBoundary text token.to
  IsCharBoundary-to utf8 =
      let sp = span text token stands in
      let inside = stands.inside in
      let lt : token.from < token.to = sp.0 in
      let many : length (written text token) ≡ token.to - token.from = sp.1 in
      let last : get_or (written text token) (length (written text token) - 1) 0 < 128 = (ascii-ends token.sort (written text token) stands.form).last in
      let place : token.from + (length (written text token) - 1) ≡ token.to - 1 = omega arith in
      let end : token.to - 1 + 1 ≡ token.to = omega arith in
      subst
      (IsCharBoundary text)
      end
      (IsCharBoundary-after_ascii text (token.to - 1) utf8 (omega arith) (subst (λ c. c < 128) (written-at (length (written text token) - 1) (omega arith) ∙ ap (λ k. get_or text k 0) place) last))
