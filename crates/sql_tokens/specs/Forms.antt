-- The forms that tokens have.
use Rattle.std.specs.Prelude.{◌≡◌, ℕ, List, [], ◌∷◌, ◌++◌, Bool, true, false, ◌&&◌, ◌||◌, ◌==◌, not, nat_le, length, codes, if◌then◌else◌}
use Rattle.std.specs.Char.{is_ascii_alphabetic, is_ascii_digit}
use Rattle.std.specs.List.{list_all, list_any, slice_split}
use Rattle.std.specs.Str.{bytes_eq}
use Rattle.std.specs.Str.Parse.{digits_value}
use Rattle.sql_tokens.specs.declared.token_sort.TokenSort.{TokenSort}
use Rattle.sql_tokens.specs.declared.token_sort.TokenSort.TheVariants.{Word, Quoted, Numeral, Text, Symbol}

-- White space: a space, a tab, a carriage return or a line feed.
abbrev pub is_space : ℕ → Bool
is_space c = (c == 32) || (c == 9) || (c == 13) || (c == 10)

-- An ASCII letter or an underscore, with which a word begins.
abbrev pub is_word_start : ℕ → Bool
is_word_start c = is_ascii_alphabetic c || (c == 95)

-- An ASCII letter, an underscore or a digit, with which a word goes on.
abbrev pub is_word_byte : ℕ → Bool
is_word_byte c = is_word_start c || is_ascii_digit c

-- A word.
abbrev pub is_word : List ℕ → Bool
is_word [] = false
is_word (c ∷ cs) = is_word_start c && list_all is_word_byte cs

-- The greatest value of a numeral: 2 to the 63rd.
abbrev pub most_value : ℕ
most_value = 9223372036854775808

-- A numeral: one digit or more, with a value that is not too great.
abbrev pub is_numeral : List ℕ → Bool
is_numeral [] = false
is_numeral (c ∷ cs) = is_ascii_digit c && list_all is_ascii_digit cs && nat_le (digits_value 10 (c ∷ cs)) most_value

-- A double quote.
abbrev pub is_double_quote : ℕ → Bool
is_double_quote c = c == 34

-- A dot.
abbrev pub is_dot : ℕ → Bool
is_dot c = c == 46

-- A byte that a segment of a quoted name may have: a space or a later one, and no double quote; at dots the name is split.
abbrev pub is_segment_byte : ℕ → Bool
is_segment_byte c = nat_le 32 c && not (is_double_quote c)

-- A piece of a quoted name between its dots may be a segment: it is one such byte or more.
abbrev pub is_segment : List ℕ → Bool
is_segment [] = false
is_segment (c ∷ cs) = is_segment_byte c && list_all is_segment_byte cs

-- The most bytes that a name may have.
abbrev pub most_name_bytes : ℕ
most_name_bytes = 255

-- A name as it may stand between quotes: not too long, and segments with dots between them.
abbrev pub is_quoted_name : List ℕ → Bool
is_quoted_name name = nat_le (length name) most_name_bytes && list_all is_segment (slice_split is_dot name)

-- A single quote.
abbrev pub is_quote : ℕ → Bool
is_quote c = c == 39

-- Bytes with each single quote written twice.
abbrev pub doubled : List ℕ → List ℕ
doubled [] = []
doubled (c ∷ cs) = if is_quote c then c ∷ c ∷ doubled cs else c ∷ doubled cs

-- Bytes between two marks.
abbrev pub between : ℕ → List ℕ → List ℕ
between mark bytes = mark ∷ (bytes ++ mark ∷ [])

-- A symbol of one character.
abbrev pub is_sign : ℕ → Bool
is_sign c = list_any (λ sign. c == sign) (codes "(),.;*+-=<>")

-- A symbol of two characters.
abbrev pub is_sign_pair : ℕ → ℕ → Bool
is_sign_pair c d = list_any (bytes_eq (c ∷ d ∷ [])) (codes "<>" ∷ codes "!=" ∷ codes "<=" ∷ codes ">=" ∷ [])

-- A symbol.
abbrev pub is_symbol : List ℕ → Bool
is_symbol (c ∷ []) = is_sign c
is_symbol (c ∷ d ∷ []) = is_sign_pair c d
is_symbol bytes = false

-- The bytes are a token of a sort.
abbrev pub IsToken : TokenSort → List ℕ → Type 0
IsToken Word bytes = is_word bytes ≡ true
IsToken Quoted bytes = (name : List ℕ) × (bytes ≡ between 34 name) × (is_quoted_name name ≡ true)
IsToken Numeral bytes = is_numeral bytes ≡ true
IsToken Text bytes = (value : List ℕ) × (bytes ≡ between 39 (doubled value))
IsToken Symbol bytes = is_symbol bytes ≡ true

-- A token goes on with the byte, which therefore may not follow it: a word or a numeral with a letter, a digit or an underscore, a text with a single quote, a symbol where that makes a longer one.
abbrev pub goes_on : TokenSort → List ℕ → ℕ → Bool
goes_on Word bytes c = is_word_byte c
goes_on Quoted bytes c = false
goes_on Numeral bytes c = is_word_byte c
goes_on Text bytes c = is_quote c
goes_on Symbol bytes c = is_symbol (bytes ++ c ∷ [])
