use Rattle.sql_tokens.proofs.Scans.{each_stands}
use Rattle.sql_tokens.proofs.laws.each_token_stands.Goals as goal

pub returns : goal.returns
returns c = record { law = each_stands }
