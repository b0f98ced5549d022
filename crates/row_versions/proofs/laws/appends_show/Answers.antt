use Rattle.row_versions.proofs.Seen.{appends-show}
use Rattle.row_versions.proofs.laws.appends_show.Goals as goal

pub returns : goal.returns
returns c = record { law = appends-show }
