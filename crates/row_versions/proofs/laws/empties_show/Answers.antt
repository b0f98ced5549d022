use Rattle.row_versions.proofs.Seen.{empties-show}
use Rattle.row_versions.proofs.laws.empties_show.Goals as goal

pub returns : goal.returns
returns c = record { law = empties-show }
