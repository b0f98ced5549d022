-- What a text's tokens are to the grammar.
use Rattle.std.specs.Prelude.{ℕ, List, [], ◌∷◌, map, Bool, codes, Option, Some, None, unwrap_or, if◌then◌else◌}
use Rattle.std.specs.Str.{bytes_eq}
use Rattle.sql_tokens.specs.declared.token.Token.{Token}
use Rattle.sql_tokens.specs.declared.token_sort.TokenSort.{TokenSort}
use Rattle.sql_tokens.specs.declared.token_sort.TokenSort.TheVariants as sorts
use Rattle.sql_tokens.specs.Tokens.{written}
use Rattle.sql_tokens.specs.Values.{quoted_name, numeral_value, text_value}
use Rattle.sql_grammar.specs.declared.mark.Mark.{Mark}
use Rattle.sql_grammar.specs.declared.mark.Mark.TheVariants as marks
use Rattle.sql_grammar.specs.declared.terminal.Terminal.{Terminal}
use Rattle.sql_grammar.specs.declared.terminal.Terminal.TheVariants as terminal
use Rattle.sql_grammar.specs.Terminals.{is_keyword}

-- The reserved words, and what each stands for.
abbrev pub reserved : List (List ℕ × Mark)
reserved =
    (codes "SELECT", marks.Select) ∷ (codes "DISTINCT", marks.Distinct) ∷ (codes "FROM", marks.From) ∷ (codes "WHERE", marks.Where)
    ∷ (codes "GROUP", marks.Group) ∷ (codes "BY", marks.By) ∷ (codes "HAVING", marks.Having) ∷ (codes "ORDER", marks.Order)
    ∷ (codes "LIMIT", marks.Limit) ∷ (codes "AS", marks.As) ∷ (codes "JOIN", marks.Join) ∷ (codes "INNER", marks.Inner)
    ∷ (codes "LEFT", marks.Left) ∷ (codes "OUTER", marks.Outer) ∷ (codes "ON", marks.On) ∷ (codes "AND", marks.And)
    ∷ (codes "OR", marks.Or) ∷ (codes "NOT", marks.Not) ∷ (codes "IS", marks.Is) ∷ (codes "NULL", marks.Null)
    ∷ (codes "IN", marks.In) ∷ (codes "BETWEEN", marks.Between) ∷ (codes "LIKE", marks.Like) ∷ (codes "ANY", marks.Any)
    ∷ (codes "TRUE", marks.True) ∷ (codes "FALSE", marks.False) ∷ (codes "ASC", marks.Asc) ∷ (codes "DESC", marks.Desc)
    ∷ (codes "SET", marks.Set) ∷ []

-- The symbols, and what each stands for.
abbrev pub symbols : List (List ℕ × Mark)
symbols =
    (codes "(", marks.Open) ∷ (codes ")", marks.Close) ∷ (codes ",", marks.Comma) ∷ (codes ".", marks.Dot) ∷ (codes ";", marks.Semicolon)
    ∷ (codes "*", marks.Star) ∷ (codes "+", marks.Plus) ∷ (codes "-", marks.Minus) ∷ (codes "=", marks.Equal) ∷ (codes "<>", marks.NotEqual)
    ∷ (codes "!=", marks.NotEqual) ∷ (codes "<", marks.Less) ∷ (codes "<=", marks.LessEqual) ∷ (codes ">", marks.Greater)
    ∷ (codes ">=", marks.GreaterEqual) ∷ []

-- What the first entry stands for whose text passes a test.
abbrev pub entry : (List ℕ → Bool) → List (List ℕ × Mark) → Option Mark
entry test [] = None
entry test (e ∷ es) = if test e.0 then Some e.1 else entry test es

-- What a word stands for, if it is reserved.
abbrev pub mark_of_word : List ℕ → Option Mark
mark_of_word word = entry (is_keyword word) reserved

-- What a symbol stands for.
abbrev pub mark_of_symbol : List ℕ → Option Mark
mark_of_symbol bytes = entry (bytes_eq bytes) symbols

-- A word as a terminal: what it stands for, or itself.
abbrev pub word_terminal : List ℕ → Option Mark → Terminal
word_terminal word (Some mark) = terminal.Mark mark
word_terminal word None = terminal.Word word

-- What a token of a sort is to the grammar. No token has the sort of a symbol with other bytes than those of a symbol.
abbrev pub terminal_of : TokenSort → List ℕ → Terminal
terminal_of sorts.Word bytes = word_terminal bytes (mark_of_word bytes)
terminal_of sorts.Quoted bytes = terminal.Quoted (quoted_name bytes)
terminal_of sorts.Numeral bytes = terminal.Number (numeral_value bytes)
terminal_of sorts.Text bytes = terminal.Text (text_value bytes)
terminal_of sorts.Symbol bytes = terminal.Mark (unwrap_or (mark_of_symbol bytes) marks.Semicolon)

-- What the tokens of a text are to the grammar.
abbrev pub terminals_of : List ℕ → List Token → List Terminal
terminals_of text tokens = map (λ token. terminal_of token.sort (written text token)) tokens
