use Rattle.sql_syntax.proofs.PrintStatements.{statement_again}
use Rattle.sql_syntax.proofs.print_laws.what_is_printed_spells_the_statement.Goals as goal

pub returns : goal.returns
returns c =
    let quotes = c.a_value_is_written_between_quotes.ensures in
    record { law = λ text statement spelled short. statement_again (record { name = quotes.name; value = quotes.value }) text statement spelled short }
