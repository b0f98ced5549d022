use Rattle.sql_tokens.proofs.Scans.{found_iff_are}
use Rattle.sql_tokens.proofs.laws.the_tokens_are_those_found.Goals as goal

pub returns : goal.returns
returns c = record { law = found_iff_are }
