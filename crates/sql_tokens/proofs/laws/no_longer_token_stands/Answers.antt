use Rattle.sql_tokens.proofs.Longest.{longest}
use Rattle.sql_tokens.proofs.laws.no_longer_token_stands.Goals as goal

pub returns : goal.returns
returns c = record { law = longest }
