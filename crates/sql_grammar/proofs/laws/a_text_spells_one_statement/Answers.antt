use Rattle.sql_grammar.proofs.Texts.{spells_one}
use Rattle.sql_grammar.proofs.laws.a_text_spells_one_statement.Goals as goal

pub returns : goal.returns
returns c = record { law = spells_one c.the_tokens_are_those_found.ensures.law }
