-- What tokens mean.
use Rattle.std.specs.Prelude.{ℕ, ◌-◌, List, [], ◌∷◌, length, slice_range, if◌then◌else◌}
use Rattle.std.specs.Str.Parse.{digits_value}
use Rattle.sql_tokens.specs.Forms.{is_quote}

-- What stands between a token's first byte and its last.
abbrev pub between_quotes : List ℕ → List ℕ
between_quotes token = slice_range token 1 (length token - 1)

-- The name in a quoted token.
abbrev pub quoted_name : List ℕ → List ℕ
quoted_name token = between_quotes token

-- The value of a numeral.
abbrev pub numeral_value : List ℕ → ℕ
numeral_value token = digits_value 10 token

-- One quote for each two.
abbrev pub undoubled : List ℕ → List ℕ
undoubled [] = []
undoubled (c ∷ []) = c ∷ []
undoubled (c ∷ d ∷ cs) = if is_quote c then c ∷ undoubled cs else c ∷ undoubled (d ∷ cs)

-- The value of a text.
abbrev pub text_value : List ℕ → List ℕ
text_value token = undoubled (between_quotes token)
