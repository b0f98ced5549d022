-- Which lists of tokens texts have.
use Rattle.std.specs.Prelude.{◌≡◌, ℕ, ◌≤◌, List, [], ◌∷◌, Bool, true, false, length, drop, slice_range}
use Rattle.std.specs.List.{list_all}
use Rattle.sql_tokens.specs.Forms.{is_space, IsToken, goes_on}
use Rattle.sql_tokens.specs.declared.token.Token.{Token}

-- The most bytes that a text may have: 1 MiB.
abbrev pub most_statement_bytes : ℕ
most_statement_bytes = 1048576

-- Every byte is white space.
abbrev pub IsSpace : List ℕ → Type 0
IsSpace bytes = list_all is_space bytes ≡ true

-- The bytes do not begin with a byte that the test passes.
abbrev pub BeginsOutside : (ℕ → Bool) → List ℕ → Type 0
BeginsOutside test [] = Unit {0}
BeginsOutside test (c ∷ cs) = test c ≡ false

-- What is written at a token: the slice of its span.
abbrev pub written : List ℕ → Token → List ℕ
written text token = slice_range text token.from token.to

-- A token stands in a text: what is written there is a token of its sort, and does not go on behind its span.
pub record Stands (text : List ℕ) (token : Token) : Type 0 where
  pub inside : token.to ≤ length text
  pub form : IsToken token.sort (written text token)
  pub longest : BeginsOutside (goes_on token.sort (written text token)) (drop token.to text)

-- From a place on a text has these tokens: none, where only white space is left; or, past white space, a token that stands, and those from its end on.
pub data HasFrom (text : List ℕ) : ℕ → List Token → Type 0 where
  none : {at : ℕ} → IsSpace (drop at text) → HasFrom text at []
  next : {at : ℕ} {token : Token} {more : List Token} → at ≤ token.from → IsSpace (slice_range text at token.from) → Stands text token → HasFrom text token.to more → HasFrom text at (token ∷ more)

-- The tokens of a text that is not too long.
pub record AreTokens (text : List ℕ) (tokens : List Token) : Type 0 where
  pub fits : length text ≤ most_statement_bytes
  pub all : HasFrom text 0 tokens
