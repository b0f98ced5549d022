use Rattle.sql_tokens.proofs.Scans.{are_one}
use Rattle.sql_tokens.proofs.laws.a_text_has_one_list_of_tokens.Goals as goal

pub returns : goal.returns
returns c = record { law = are_one }
