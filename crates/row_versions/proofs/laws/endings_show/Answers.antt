use Rattle.row_versions.proofs.Seen.{endings-show}
use Rattle.row_versions.proofs.laws.endings_show.Goals as goal

pub returns : goal.returns
returns c = record { law = endings-show }
