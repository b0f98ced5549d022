-- What is found at the front of bytes is a token.
use Rattle.std.proofs.Common.{◌≡◌, ◌∙◌, refl, ℕ, suc, ◌+◌, ◌<◌, ◌≤◌, true, false, List, [], ◌∷◌, ◌++◌, length, get_or, take, drop, arith, ap, sym, subst, Some, inl, inr}
use Rattle.std.specs.Prelude.{nat_lt}
use Rattle.std.specs.Char.{is_ascii_digit}
use Rattle.std.specs.List.{prefix_len, take_while}
use Rattle.std.proofs.lemmas.Bool.{and_from, and_parts, cases_Bool, cond-false, cond-true, eqb-true, ltb-true, not-false, or_left, or_right}
use Rattle.std.proofs.lemmas.List.{drop_more, take_more}
use Rattle.std.proofs.lemmas.List.Sums.{prefix_len-le-length}
use Rattle.std.proofs.lemmas.Option.{none-some, same_Some, cond_some}
use Rattle.sql_tokens.specs.declared.token_sort.TokenSort.TheVariants.{Word, Quoted, Numeral, Text, Symbol}
use Rattle.sql_tokens.specs.declared.lexeme.Lexeme.{Lexeme}
use Rattle.sql_tokens.specs.Forms.{is_word_start, is_word_byte, is_word, is_numeral, is_double_quote, is_quote, is_quoted_name, is_sign, is_sign_pair, IsToken, goes_on}
use Rattle.sql_tokens.specs.Tokens.{BeginsOutside}
use Rattle.sql_tokens.specs.Scan.{lexeme, numeral_len, text_len, name_len, quoted_len, symbol_len, first_lexeme}
use Rattle.sql_tokens.proofs.Runs.{one-more, map_some, run_passes, rest_outside, run-some}
use Rattle.sql_tokens.proofs.Texts.{text_len-ends}
use Rattle.sql_tokens.proofs.Names.{is_other}

-- A token is found at the front of bytes.
pub record IsFront (bytes : List ℕ) (found : Lexeme) : Type 0 where
  pub form : IsToken found.sort (take found.len bytes)
  pub longest : BeginsOutside (goes_on found.sort (take found.len bytes)) (drop found.len bytes)
  pub some : 0 < found.len
  pub inside : found.len ≤ length bytes

formed-word : (c : ℕ) (cs : List ℕ) → is_word_start c ≡ true → IsFront (c ∷ cs) (lexeme Word (prefix_len is_word_byte (c ∷ cs)))
formed-word c cs h =
    let run : prefix_len is_word_byte (c ∷ cs) ≡ suc (prefix_len is_word_byte cs) = run-some is_word_byte c cs (or_left (is_word_start c) (is_ascii_digit c) h) in
    record {
      form = subst (λ n. is_word (take n (c ∷ cs)) ≡ true) (sym run) (and_from (is_word_start c) _ h (run_passes is_word_byte cs));
      longest = rest_outside is_word_byte (c ∷ cs);
      some = omega arith;
      inside = prefix_len-le-length is_word_byte (c ∷ cs);
    }

formed-numeral : (c : ℕ) (cs : List ℕ) → is_ascii_digit c ≡ true → is_numeral (take_while is_word_byte (c ∷ cs)) ≡ true → IsFront (c ∷ cs) (lexeme Numeral (prefix_len is_word_byte (c ∷ cs)))
formed-numeral c cs h form =
    let run : prefix_len is_word_byte (c ∷ cs) ≡ suc (prefix_len is_word_byte cs) = run-some is_word_byte c cs (or_right (is_word_start c) (is_ascii_digit c) h) in
    record {
      form = form;
      longest = rest_outside is_word_byte (c ∷ cs);
      some = omega arith;
      inside = prefix_len-le-length is_word_byte (c ∷ cs);
    }

never_outside : (bytes rest : List ℕ) → BeginsOutside (goes_on Quoted bytes) rest
never_outside bytes [] = tt
never_outside bytes (c ∷ rest) = refl

closing : (bytes : List ℕ) → name_len bytes < length bytes → get_or bytes (name_len bytes) 0 ≡ 34
closing bytes inside =
    let outside : is_other (get_or bytes (name_len bytes) 0) ≡ false = subst (BeginsOutside is_other) (drop_more bytes (name_len bytes) 0 inside) (rest_outside is_other bytes) in
    eqb-true _ 34 (not-false _ outside)

formed-quoted : (bytes : List ℕ) (n : ℕ) → quoted_len bytes ≡ Some n → IsFront (34 ∷ bytes) (lexeme Quoted (1 + n))
formed-quoted bytes n h =
    let found = cond_some _ _ n h in
    let both = and_parts (nat_lt (name_len bytes) (length bytes)) (is_quoted_name (take (name_len bytes) bytes)) found.0 in
    let inside : name_len bytes < length bytes = ltb-true _ _ both.0 in
    let taken : take n bytes ≡ take (name_len bytes) bytes ++ 34 ∷ [] =
    ap (λ k. take k bytes) (sym found.1) ∙ take_more bytes (name_len bytes) 0 inside ∙ ap (λ c. take (name_len bytes) bytes ++ c ∷ []) (closing bytes inside) in
    subst
    (λ k. IsFront (34 ∷ bytes) (lexeme Quoted k))
    (one-more n)
    (record {
      form = (take (name_len bytes) bytes, ap (λ xs. 34 ∷ xs) taken, both.1);
      longest = never_outside (34 ∷ take n bytes) (drop n bytes);
      some = omega arith;
      inside = let e = found.1 in omega arith;
    })

formed-text : (bytes : List ℕ) (n : ℕ) → text_len bytes ≡ Some n → IsFront (39 ∷ bytes) (lexeme Text (1 + n))
formed-text bytes n h =
    let ends = text_len-ends bytes n h in
    subst
    (λ k. IsFront (39 ∷ bytes) (lexeme Text k))
    (one-more n)
    (record {
      form = (ends.value, ap (λ xs. 39 ∷ xs) ends.front);
      longest = ends.outside;
      some = omega arith;
      inside = let e = ends.inside in omega arith;
    })

pair_outside : (c d : ℕ) (rest : List ℕ) → BeginsOutside (goes_on Symbol (c ∷ d ∷ [])) rest
pair_outside c d [] = tt
pair_outside c d (e ∷ rest) = refl

formed-symbol : (bytes : List ℕ) (n : ℕ) → symbol_len bytes ≡ Some n → IsFront bytes (lexeme Symbol n)
formed-symbol [] n h = absurd (none-some n h)
formed-symbol (c ∷ []) n h =
    let found = cond_some (is_sign c) _ n h in
    subst (λ k. IsFront (c ∷ []) (lexeme Symbol k)) found.1 (record { form = found.0; longest = tt; some = omega arith; inside = omega arith })
formed-symbol (c ∷ d ∷ cs) n h =
    elim (cases_Bool (is_sign_pair c d)) [
      | inl pair ↦
          subst
          (λ k. IsFront (c ∷ d ∷ cs) (lexeme Symbol k))
          (same_Some 2 n (sym (cond-true (is_sign_pair c d) _ _ pair) ∙ h))
          (record { form = pair; longest = pair_outside c d cs; some = omega arith; inside = omega arith })
      | inr no_pair ↦
          let found = cond_some (is_sign c) _ n (sym (cond-false (is_sign_pair c d) _ _ no_pair) ∙ h) in
          subst (λ k. IsFront (c ∷ d ∷ cs) (lexeme Symbol k)) found.1 (record { form = found.0; longest = no_pair; some = omega arith; inside = omega arith })
    ]

pub formed : (bytes : List ℕ) (l : Lexeme) → first_lexeme bytes ≡ Some l → IsFront bytes l
formed [] l h = absurd (none-some l h)
formed (c ∷ cs) l h =
    elim (cases_Bool (is_word_start c)) [
      | inl word ↦ subst (IsFront (c ∷ cs)) (same_Some _ l (sym (cond-true (is_word_start c) _ _ word) ∙ h)) (formed-word c cs word)
      | inr no_word ↦
          let h1 = sym (cond-false (is_word_start c) _ _ no_word) ∙ h in
          elim (cases_Bool (is_ascii_digit c)) [
            | inl digit ↦
                let numeral = map_some (λ n. lexeme Numeral n) (numeral_len (c ∷ cs)) l (sym (cond-true (is_ascii_digit c) _ _ digit) ∙ h1) in
                let long = cond_some (is_numeral (take_while is_word_byte (c ∷ cs))) _ numeral.0 numeral.1 in
                subst (IsFront (c ∷ cs)) (ap (λ n. lexeme Numeral n) long.1 ∙ numeral.2) (formed-numeral c cs digit long.0)
            | inr no_digit ↦
                let h2 = sym (cond-false (is_ascii_digit c) _ _ no_digit) ∙ h1 in
                elim (cases_Bool (is_double_quote c)) [
                  | inl double ↦
                      let quoted = map_some (λ n. lexeme Quoted (1 + n)) (quoted_len cs) l (sym (cond-true (is_double_quote c) _ _ double) ∙ h2) in
                      subst (λ (d : ℕ). IsFront (d ∷ cs) l) (sym (eqb-true c 34 double)) (subst (IsFront (34 ∷ cs)) quoted.2 (formed-quoted cs quoted.0 quoted.1))
                  | inr no_double ↦
                      let h3 = sym (cond-false (is_double_quote c) _ _ no_double) ∙ h2 in
                      elim (cases_Bool (is_quote c)) [
                        | inl quote ↦
                            let text = map_some (λ n. lexeme Text (1 + n)) (text_len cs) l (sym (cond-true (is_quote c) _ _ quote) ∙ h3) in
                            subst (λ (d : ℕ). IsFront (d ∷ cs) l) (sym (eqb-true c 39 quote)) (subst (IsFront (39 ∷ cs)) text.2 (formed-text cs text.0 text.1))
                        | inr no_quote ↦
                            let symbol = map_some (λ n. lexeme Symbol n) (symbol_len (c ∷ cs)) l (sym (cond-false (is_quote c) _ _ no_quote) ∙ h3) in
                            subst (IsFront (c ∷ cs)) symbol.2 (formed-symbol (c ∷ cs) symbol.0 symbol.1)
                      ]
                ]
          ]
    ]
