-- The tokens of a text as a function.
use Rattle.std.specs.Prelude.{ℕ, zero, suc, ◌+◌, ◌-◌, List, [], ◌∷◌, ◌&&◌, not, nat_lt, nat_le, length, take, take_while, Option, Some, None, option_map, option_and_then, if◌then◌else◌}
use Rattle.std.specs.Char.{is_ascii_digit}
use Rattle.std.specs.List.{prefix_len}
use Rattle.sql_tokens.specs.Forms.{is_space, is_word_start, is_word_byte, is_numeral, is_double_quote, is_quoted_name, is_quote, is_sign, is_sign_pair}
use Rattle.sql_tokens.specs.Tokens.{most_statement_bytes}
use Rattle.sql_tokens.specs.declared.token_sort.TokenSort.{TokenSort}
use Rattle.sql_tokens.specs.declared.token_sort.TokenSort.TheVariants.{Word, Quoted, Numeral, Text, Symbol}
use Rattle.sql_tokens.specs.declared.token.Token.{Token}
use Rattle.sql_tokens.specs.declared.lexeme.Lexeme.{Lexeme}

-- A token of a sort with this many bytes.
abbrev pub lexeme : TokenSort → ℕ → Lexeme
lexeme sort len = record { sort = sort; len = len }

-- How many bytes a numeral has: it is as long as a word might be.
abbrev pub numeral_len : List ℕ → Option ℕ
numeral_len bytes = if is_numeral (take_while is_word_byte bytes) then Some (prefix_len is_word_byte bytes) else None

-- How many bytes from a text's opening quote on belong to the text, the closing quote included.
abbrev pub text_len : List ℕ → Option ℕ
text_len [] = None
text_len (c ∷ []) = if is_quote c then Some 1 else None
text_len (c ∷ d ∷ cs) =
    if not (is_quote c) then option_map (λ n. 1 + n) (text_len (d ∷ cs))
    else if is_quote d then option_map (λ n. 2 + n) (text_len cs)
    else Some 1

-- How many bytes stand before the first double quote.
abbrev pub name_len : List ℕ → ℕ
name_len bytes = prefix_len (λ c. not (is_double_quote c)) bytes

-- How many bytes from a quoted name's opening quote on belong to it, the closing quote included.
abbrev pub quoted_len : List ℕ → Option ℕ
quoted_len bytes = if nat_lt (name_len bytes) (length bytes) && is_quoted_name (take (name_len bytes) bytes) then Some (name_len bytes + 1) else None

-- How many bytes the symbol has with which the bytes begin.
abbrev pub symbol_len : List ℕ → Option ℕ
symbol_len [] = None
symbol_len (c ∷ []) = if is_sign c then Some 1 else None
symbol_len (c ∷ d ∷ cs) = if is_sign_pair c d then Some 2 else if is_sign c then Some 1 else None

-- The token with which the bytes begin.
abbrev pub first_lexeme : List ℕ → Option Lexeme
first_lexeme [] = None
first_lexeme (c ∷ cs) =
    if is_word_start c then Some (lexeme Word (prefix_len is_word_byte (c ∷ cs)))
    else if is_ascii_digit c then option_map (λ n. lexeme Numeral n) (numeral_len (c ∷ cs))
    else if is_double_quote c then option_map (λ n. lexeme Quoted (1 + n)) (quoted_len cs)
    else if is_quote c then option_map (λ n. lexeme Text (1 + n)) (text_len cs)
    else option_map (λ n. lexeme Symbol n) (symbol_len (c ∷ cs))

-- A token at a place of a text.
abbrev pub token_at : ℕ → Lexeme → Token
token_at at found = record { sort = found.sort; from = at; to = at + found.len }

-- The tokens of the bytes at a place of a text, where as many of them as are said still belong to the token before.
abbrev pub scan : ℕ → ℕ → List ℕ → Option (List Token)
scan inside at [] = Some []
scan (suc inside) at (c ∷ cs) = scan inside (at + 1) cs
scan zero at (c ∷ cs) =
    if is_space c then scan zero (at + 1) cs
    else option_and_then (λ found. option_map (λ more. token_at at found ∷ more) (scan (found.len - 1) (at + 1) cs)) (first_lexeme (c ∷ cs))

-- The tokens of a text, if it has any list of them.
abbrev pub tokens_of : List ℕ → Option (List Token)
tokens_of text = if nat_le (length text) most_statement_bytes then scan 0 0 text else None
