use Rattle.sql_grammar.proofs.Texts.{read_iff_spelled}
use Rattle.sql_grammar.proofs.laws.a_text_spells_what_is_read.Goals as goal

pub returns : goal.returns
returns c = record { law = read_iff_spelled c.the_tokens_are_those_found.ensures.law }
