-- What is printed of a statement.
use Rattle.std.specs.Prelude.{ℕ, zero, suc, List, [], ◌∷◌, ◌++◌, map, codes, decimal}
use Rattle.sql_tree.specs.declared.set.Set.{Set}
use Rattle.sql_tree.specs.declared.statement.Statement.{Statement}
use Rattle.sql_tree.specs.declared.statement.Statement.TheVariants as statement
use Rattle.sql_tokens.specs.Forms.{between, doubled}
use Rattle.sql_grammar.specs.declared.mark.Mark.{Mark}
use Rattle.sql_grammar.specs.declared.mark.Mark.TheVariants as marks
use Rattle.sql_grammar.specs.declared.terminal.Terminal.{Terminal}
use Rattle.sql_grammar.specs.declared.terminal.Terminal.TheVariants as terminal
use Rattle.sql_syntax.specs.Printing.{joined_by}
use Rattle.sql_syntax.specs.PrintingQuery.{behind_printed, set_printed, question_printed}

-- A symbol, or nothing for a mark that is none.
abbrev pub symbol_text : Mark → List ℕ
symbol_text marks.Open = codes "("
symbol_text marks.Close = codes ")"
symbol_text marks.Comma = codes ","
symbol_text marks.Dot = codes "."
symbol_text marks.Semicolon = codes ";"
symbol_text marks.Star = codes "*"
symbol_text marks.Plus = codes "+"
symbol_text marks.Minus = codes "-"
symbol_text marks.Equal = codes "="
symbol_text marks.NotEqual = codes "<>"
symbol_text marks.Less = codes "<"
symbol_text marks.LessEqual = codes "<="
symbol_text marks.Greater = codes ">"
symbol_text marks.GreaterEqual = codes ">="
symbol_text _ = []

-- A reserved word in capitals, or a symbol.
abbrev pub mark_text : Mark → List ℕ
mark_text marks.Select = codes "SELECT"
mark_text marks.Distinct = codes "DISTINCT"
mark_text marks.From = codes "FROM"
mark_text marks.Where = codes "WHERE"
mark_text marks.Group = codes "GROUP"
mark_text marks.By = codes "BY"
mark_text marks.Having = codes "HAVING"
mark_text marks.Order = codes "ORDER"
mark_text marks.Limit = codes "LIMIT"
mark_text marks.As = codes "AS"
mark_text marks.Join = codes "JOIN"
mark_text marks.Inner = codes "INNER"
mark_text marks.Left = codes "LEFT"
mark_text marks.Outer = codes "OUTER"
mark_text marks.On = codes "ON"
mark_text marks.And = codes "AND"
mark_text marks.Or = codes "OR"
mark_text marks.Not = codes "NOT"
mark_text marks.Is = codes "IS"
mark_text marks.Null = codes "NULL"
mark_text marks.In = codes "IN"
mark_text marks.Between = codes "BETWEEN"
mark_text marks.Like = codes "LIKE"
mark_text marks.Any = codes "ANY"
mark_text marks.True = codes "TRUE"
mark_text marks.False = codes "FALSE"
mark_text marks.Asc = codes "ASC"
mark_text marks.Desc = codes "DESC"
mark_text marks.Set = codes "SET"
mark_text mark = symbol_text mark

-- A terminal.
abbrev pub terminal_text : Terminal → List ℕ
terminal_text (terminal.Word w) = w
terminal_text (terminal.Quoted name) = between 34 name
terminal_text (terminal.Number n) = decimal n
terminal_text (terminal.Text value) = between 39 (doubled value)
terminal_text (terminal.Mark mark) = mark_text mark

-- Terminals, each behind a space.
abbrev pub spaced : List Terminal → List ℕ
spaced [] = []
spaced (t ∷ ts) = 32 ∷ (terminal_text t ++ spaced ts)

-- A mark, but none before the first part of a list.
abbrev pub mark_before : Mark → ℕ → List Terminal
mark_before mark zero = []
mark_before mark (suc n) = terminal.Mark mark ∷ []

-- Terminals with a space between them.
abbrev pub text_printed : List Terminal → List ℕ
text_printed [] = []
text_printed (t ∷ ts) = terminal_text t ++ spaced ts

-- The text of a load behind a space, where it is not empty.
abbrev pub json_printed : List ℕ → List ℕ
json_printed [] = []
json_printed (c ∷ cs) = 32 ∷ c ∷ cs

-- What an update writes.
abbrev pub sets_printed : List Set → List Terminal
sets_printed sets = terminal.Mark marks.Set ∷ joined_by marks.Comma (map set_printed sets)

-- A statement.
abbrev pub statement_printed : Statement → List ℕ
statement_printed (statement.Load collection json) = codes "LOAD " ++ (collection ++ json_printed json)
statement_printed (statement.Select question) = text_printed (question_printed question)
statement_printed (statement.Update collection sets test) = text_printed (terminal.Word (codes "UPDATE") ∷ terminal.Word collection ∷ (sets_printed sets ++ behind_printed marks.Where test))
statement_printed (statement.Delete collection test) = text_printed (terminal.Word (codes "DELETE") ∷ terminal.Mark marks.From ∷ terminal.Word collection ∷ behind_printed marks.Where test)
