-- The statement that a text spells, as a function.
use Rattle.std.specs.Prelude.{ℕ, List, not, nat_le, length, codes, Option, Some, None, option_map, option_and_then, if◌then◌else◌}
use Rattle.sql_tree.specs.declared.statement.Statement.{Statement}
use Rattle.sql_tree.specs.declared.statement.Statement.TheVariants as statement
use Rattle.sql_tokens.specs.Ends.{trim, word_in, behind_word}
use Rattle.sql_tokens.specs.Tokens.{most_statement_bytes}
use Rattle.sql_tokens.specs.Scan.{tokens_of}
use Rattle.sql_grammar.specs.Terminals.{is_keyword}
use Rattle.sql_grammar.specs.Words.{terminals_of}
use Rattle.sql_grammar.specs.Statement.{is_collection}
use Rattle.sql_grammar.specs.QueryReader.{question_in, whole}

-- The load that is spelled behind the word LOAD.
abbrev pub load_in : List ℕ → Option Statement
load_in bytes = if is_collection (word_in bytes) then Some (statement.Load (word_in bytes) (trim (behind_word bytes))) else None

-- The question that a text's tokens spell.
unfoldable pub question_of : List ℕ → Option Statement
question_of text = option_and_then (λ tokens. option_map (λ select. statement.Select select) (whole (question_in (terminals_of text tokens)))) (tokens_of text)

-- The statement that a text spells, if it spells one.
unfoldable pub statement_of : List ℕ → Option Statement
statement_of text =
    if not (nat_le (length text) most_statement_bytes) then None
    else if is_keyword (word_in text) (codes "LOAD") then load_in (behind_word text)
    else question_of text
