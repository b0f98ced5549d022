-- Each statement that a text spells is one of which the rules may be asked.
use Rattle.std.proofs.Common.{◌≡◌, ℕ, true, List, [], ◌∷◌, Option, Some, None}
use Rattle.std.specs.Prelude.{nat_le, ◌&&◌}
use Rattle.std.specs.Char.{is_ascii_digit}
use Rattle.std.specs.List.{list_all}
use Rattle.std.specs.Str.Parse.{digits_value}
use Rattle.std.proofs.lemmas.Bool.{and_parts}
use Rattle.sql_tree.specs.declared.statement.Statement.{Statement}
use Rattle.sql_tokens.specs.declared.token.Token.{Token}
use Rattle.sql_tokens.specs.declared.token_sort.TokenSort.{TokenSort}
use Rattle.sql_tokens.specs.declared.token_sort.TokenSort.TheVariants as sorts
use Rattle.sql_tokens.specs.Forms.{IsToken}
use Rattle.sql_tokens.specs.Tokens as tokens
use Rattle.sql_tokens.specs.Tokens.{written, HasFrom}
use Rattle.sql_tokens.specs.Values.{numeral_value}
use Rattle.sql_grammar.specs.declared.mark.Mark.{Mark}
use Rattle.sql_grammar.specs.Words.{mark_of_word, word_terminal, terminal_of, terminals_of}
use Rattle.sql_grammar.specs.Statement as s
use Rattle.sql_grammar.specs.Statement.{Spells}
use Rattle.type_rules.specs.Written.{IsWritten}
use Rattle.spelled_rules.proofs.WrittenChains.{IsSmall, AreSmall}
use Rattle.spelled_rules.proofs.WrittenQuestions.{question_written}

word_small : (word : List ℕ) (o : Option Mark) → IsSmall (word_terminal word o)
word_small word None = tt
word_small word (Some mark) = tt

numeral_small : (bytes : List ℕ) → IsToken sorts.Numeral bytes → nat_le (numeral_value bytes) 9223372036854775808 ≡ true
numeral_small [] h = absurd (cc)
numeral_small (c ∷ cs) h = (and_parts (is_ascii_digit c && list_all is_ascii_digit cs) (nat_le (digits_value 10 (c ∷ cs)) 9223372036854775808) h).1

token_small : (sort : TokenSort) (bytes : List ℕ) → IsToken sort bytes → IsSmall (terminal_of sort bytes)
token_small sorts.Word bytes h = word_small bytes (mark_of_word bytes)
token_small sorts.Quoted bytes h = tt
token_small sorts.Numeral bytes h = numeral_small bytes h
token_small sorts.Text bytes h = tt
token_small sorts.Symbol bytes h = tt

tokens_small : (text : List ℕ) (at : ℕ) (all : List Token) → HasFrom text at all → AreSmall (terminals_of text all)
tokens_small text at [] (tokens.none h) = tt
tokens_small text at all (tokens.next {token = token} {more = more} before space stands rest) =
    (token_small token.sort (written text token) stands.form, tokens_small text token.to more rest)

pub spelled_written : (text : List ℕ) (x : Statement) → Spells text x → IsWritten x
spelled_written text x (s.load fits p) = tt
spelled_written text x (s.question {select = select} {tokens = all} are p) = question_written select (terminals_of text all) (tokens_small text 0 all are.all) p
