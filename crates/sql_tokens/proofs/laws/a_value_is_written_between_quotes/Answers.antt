use Rattle.sql_tokens.proofs.Texts.{quoted_name-between, text_value-between}
use Rattle.sql_tokens.proofs.laws.a_value_is_written_between_quotes.Goals as goal

pub returns-clause-value : goal.returns-clause-value
returns-clause-value c = text_value-between

pub returns-clause-name : goal.returns-clause-name
returns-clause-name c = quoted_name-between
