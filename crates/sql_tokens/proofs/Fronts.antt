-- The token with which bytes begin, found and formed.
use Rattle.std.proofs.Common.{◌≡◌, ◌∙◌, refl, ℕ, suc, ◌+◌, true, false, List, [], ◌∷◌, ◌++◌, length, take, arith, ap, sym, subst, Some}
use Rattle.std.specs.Prelude.{option_map, nat_lt, take_while}
use Rattle.std.specs.Char.{is_ascii_digit}
use Rattle.std.specs.List.{list_all}
use Rattle.std.proofs.lemmas.Bool.{and_from, and_parts, cond-false, cond-true, lt-ltb, or_left, or_right, false≢true}
use Rattle.std.proofs.lemmas.Bool.Decides.{nat_tests}
use Rattle.std.proofs.lemmas.List.{length-append}
use Rattle.sql_tokens.specs.declared.token_sort.TokenSort.{TokenSort}
use Rattle.sql_tokens.specs.declared.token_sort.TokenSort.TheVariants.{Word, Quoted, Numeral, Text, Symbol}
use Rattle.sql_tokens.specs.Forms.{is_space, is_word_start, is_word_byte, is_word, is_numeral, is_double_quote, is_quote, is_quoted_name, is_sign, is_sign_pair, is_symbol, doubled, between, IsToken, goes_on}
use Rattle.sql_tokens.specs.Tokens.{BeginsOutside}
use Rattle.sql_tokens.specs.Scan.{lexeme, name_len, quoted_len, symbol_len, first_lexeme}
use Rattle.sql_tokens.proofs.Runs.{prefix_len-run, take-run}
use Rattle.sql_tokens.proofs.Texts.{text_len-found}
use Rattle.sql_tokens.proofs.Names.{is_other, name-other}

-- ---- first bytes

digit-no_word : (c : ℕ) → is_ascii_digit c ≡ true → is_word_start c ≡ false
digit-no_word c h = grind (arith, nat_tests)

digits-bytes : (bytes : List ℕ) → list_all is_ascii_digit bytes ≡ true → list_all is_word_byte bytes ≡ true
digits-bytes [] h = refl
digits-bytes (c ∷ cs) h =
    let both = and_parts (is_ascii_digit c) (list_all is_ascii_digit cs) h in
    and_from (is_word_byte c) (list_all is_word_byte cs) (or_right (is_word_start c) (is_ascii_digit c) both.0) (digits-bytes cs both.1)

word-no_space : (c : ℕ) → is_word_byte c ≡ true → is_space c ≡ false
word-no_space c h = grind (arith, nat_tests)

-- The byte begins no word, no numeral, nothing in quotes and no white space.
pub record IsSignByte (c : ℕ) : Type 0 where
  pub no_word : is_word_start c ≡ false
  pub no_digit : is_ascii_digit c ≡ false
  pub no_double : is_double_quote c ≡ false
  pub no_quote : is_quote c ≡ false
  pub no_space : is_space c ≡ false

sign-byte : (c : ℕ) → is_sign c ≡ true → IsSignByte c
sign-byte c h = record { no_word = grind (arith, nat_tests); no_digit = grind (arith, nat_tests); no_double = grind (arith, nat_tests); no_quote = grind (arith, nat_tests); no_space = grind (arith, nat_tests) }

pair-byte : (c d : ℕ) → is_sign_pair c d ≡ true → IsSignByte c
pair-byte c d h = record { no_word = grind (arith, nat_tests); no_digit = grind (arith, nat_tests); no_double = grind (arith, nat_tests); no_quote = grind (arith, nat_tests); no_space = grind (arith, nat_tests) }

-- ---- a token that is formed is found

found-word : (bytes rest : List ℕ) → is_word bytes ≡ true → BeginsOutside is_word_byte rest → first_lexeme (bytes ++ rest) ≡ Some (lexeme Word (length bytes))
found-word [] rest form outside = absurd (false≢true form)
found-word (c ∷ cs) rest form outside =
    let both = and_parts (is_word_start c) (list_all is_word_byte cs) form in
    let run : list_all is_word_byte (c ∷ cs) ≡ true = and_from (is_word_byte c) (list_all is_word_byte cs) (or_left (is_word_start c) (is_ascii_digit c) both.0) both.1 in
    cond-true (is_word_start c) _ _ both.0 ∙ ap (λ n. Some (lexeme Word n)) (prefix_len-run is_word_byte (c ∷ cs) rest run outside)

found-numeral : (bytes rest : List ℕ) → is_numeral bytes ≡ true → BeginsOutside is_word_byte rest → first_lexeme (bytes ++ rest) ≡ Some (lexeme Numeral (length bytes))
found-numeral [] rest form outside = absurd (false≢true form)
found-numeral (c ∷ cs) rest form outside =
    let digits : list_all is_ascii_digit (c ∷ cs) ≡ true = (and_parts _ _ form).0 in
    let first : is_ascii_digit c ≡ true = (and_parts (is_ascii_digit c) (list_all is_ascii_digit cs) digits).0 in
    let run : list_all is_word_byte (c ∷ cs) ≡ true = digits-bytes (c ∷ cs) digits in
    let taken : is_numeral (take_while is_word_byte (c ∷ (cs ++ rest))) ≡ true = ap is_numeral (take-run is_word_byte (c ∷ cs) rest run outside) ∙ form in
    cond-false (is_word_start c) _ _ (digit-no_word c first)
    ∙ cond-true (is_ascii_digit c) _ _ first
    ∙ ap (option_map (λ n. lexeme Numeral n)) (cond-true (is_numeral (take_while is_word_byte (c ∷ (cs ++ rest)))) _ _ taken)
    ∙ ap (λ n. Some (lexeme Numeral n)) (prefix_len-run is_word_byte (c ∷ cs) rest run outside)

quoted_len-found : (name rest : List ℕ) → is_quoted_name name ≡ true → quoted_len ((name ++ 34 ∷ []) ++ rest) ≡ Some (length name + 1)
quoted_len-found name rest form =
    let bytes : List ℕ = name ++ 34 ∷ rest in
    let same : (name ++ 34 ∷ []) ++ rest ≡ bytes = regroup name rest in
    let others = name-other name form in
    let many : name_len bytes ≡ length name = prefix_len-run is_other name (34 ∷ rest) others refl in
    let inside : nat_lt (name_len bytes) (length bytes) ≡ true = lt-ltb _ _ (omega (arith, length-append name (34 ∷ rest))) in
    let named : is_quoted_name (take (name_len bytes) bytes) ≡ true = ap is_quoted_name (take-run is_other name (34 ∷ rest) others refl) ∙ form in
    ap quoted_len same ∙ cond-true _ _ _ (and_from _ _ inside named) ∙ ap (λ n. Some (n + 1)) many
  where
    regroup : (name rest : List ℕ) → (name ++ 34 ∷ []) ++ rest ≡ name ++ 34 ∷ rest
    regroup [] rest = refl
    regroup (c ∷ cs) rest = ap (λ xs. c ∷ xs) (regroup cs rest)

between-length : (mark : ℕ) (bytes : List ℕ) → 1 + (length bytes + 1) ≡ length (between mark bytes)
between-length mark bytes = let e : length (between mark bytes) ≡ suc (length (bytes ++ mark ∷ [])) = refl in omega (arith, length-append bytes (mark ∷ []))

found-quoted : (name rest : List ℕ) → is_quoted_name name ≡ true → first_lexeme (between 34 name ++ rest) ≡ Some (lexeme Quoted (length (between 34 name)))
found-quoted name rest form = ap (option_map (λ n. lexeme Quoted (1 + n))) (quoted_len-found name rest form) ∙ ap (λ n. Some (lexeme Quoted n)) (between-length 34 name)

found-text : (value rest : List ℕ) → BeginsOutside is_quote rest → first_lexeme (between 39 (doubled value) ++ rest) ≡ Some (lexeme Text (length (between 39 (doubled value))))
found-text value rest outside = ap (option_map (λ n. lexeme Text (1 + n))) (text_len-found value rest outside) ∙ ap (λ n. Some (lexeme Text n)) (between-length 39 (doubled value))

-- behind a byte of signs a symbol is looked for
sign-first : (c : ℕ) (cs : List ℕ) → IsSignByte c → first_lexeme (c ∷ cs) ≡ option_map (λ n. lexeme Symbol n) (symbol_len (c ∷ cs))
sign-first c cs b =
    cond-false (is_word_start c) _ _ b.no_word ∙ cond-false (is_ascii_digit c) _ _ b.no_digit ∙ cond-false (is_double_quote c) _ _ b.no_double ∙ cond-false (is_quote c) _ _ b.no_quote

sign-len : (c : ℕ) (rest : List ℕ) → is_sign c ≡ true → BeginsOutside (goes_on Symbol (c ∷ [])) rest → symbol_len (c ∷ rest) ≡ Some 1
sign-len c [] h outside = cond-true (is_sign c) _ _ h
sign-len c (d ∷ rest) h outside = cond-false (is_sign_pair c d) _ _ outside ∙ cond-true (is_sign c) _ _ h

found-symbol : (bytes rest : List ℕ) → is_symbol bytes ≡ true → BeginsOutside (goes_on Symbol bytes) rest → first_lexeme (bytes ++ rest) ≡ Some (lexeme Symbol (length bytes))
found-symbol [] rest form outside = absurd (false≢true form)
found-symbol (c ∷ []) rest form outside = sign-first c rest (sign-byte c form) ∙ ap (option_map (λ n. lexeme Symbol n)) (sign-len c rest form outside)
found-symbol (c ∷ d ∷ []) rest form outside = sign-first c (d ∷ rest) (pair-byte c d form) ∙ ap (option_map (λ n. lexeme Symbol n)) (cond-true (is_sign_pair c d) _ _ form)
found-symbol (c ∷ d ∷ e ∷ bytes) rest form outside = absurd (false≢true form)

pub found : (sort : TokenSort) (bytes rest : List ℕ) → IsToken sort bytes → BeginsOutside (goes_on sort bytes) rest → first_lexeme (bytes ++ rest) ≡ Some (lexeme sort (length bytes))
found Word bytes rest form outside = found-word bytes rest form outside
found Quoted bytes rest form outside = subst (λ (xs : List ℕ). first_lexeme (xs ++ rest) ≡ Some (lexeme Quoted (length xs))) (sym form.1) (found-quoted form.0 rest form.2)
found Numeral bytes rest form outside = found-numeral bytes rest form outside
found Text bytes rest form outside = subst (λ (xs : List ℕ). first_lexeme (xs ++ rest) ≡ Some (lexeme Text (length xs))) (sym form.1) (found-text form.0 rest outside)
found Symbol bytes rest form outside = found-symbol bytes rest form outside

-- ---- a token has a byte, and does not begin with white space

-- Some bytes that do not begin with white space.
abbrev pub Begins : List ℕ → Type 0
Begins [] = ⊥
Begins (c ∷ cs) = is_space c ≡ false

pub begins : (sort : TokenSort) (bytes : List ℕ) → IsToken sort bytes → Begins bytes
begins Word [] form = false≢true form
begins Word (c ∷ cs) form = word-no_space c (or_left (is_word_start c) (is_ascii_digit c) (and_parts (is_word_start c) (list_all is_word_byte cs) form).0)
begins Quoted bytes form = subst Begins (sym form.1) refl
begins Numeral [] form = false≢true form
begins Numeral (c ∷ cs) form = word-no_space c (or_right (is_word_start c) (is_ascii_digit c) (and_parts (is_ascii_digit c) (list_all is_ascii_digit cs) (and_parts _ _ form).0).0)
begins Text bytes form = subst Begins (sym form.1) refl
begins Symbol [] form = false≢true form
begins Symbol (c ∷ []) form = (sign-byte c form).no_space
begins Symbol (c ∷ d ∷ []) form = (pair-byte c d form).no_space
begins Symbol (c ∷ d ∷ e ∷ bytes) form = absurd (false≢true form)
