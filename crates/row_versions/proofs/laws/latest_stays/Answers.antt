use Rattle.row_versions.proofs.Newest.{latest-stays}
use Rattle.row_versions.proofs.laws.latest_stays.Goals as goal

pub returns : goal.returns
returns c = record { law = latest-stays }
