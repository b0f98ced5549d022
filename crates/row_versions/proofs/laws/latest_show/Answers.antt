use Rattle.row_versions.proofs.Newest.{latest-show}
use Rattle.row_versions.proofs.laws.latest_show.Goals as goal

pub returns : goal.returns
returns c = record { law = latest-show }
