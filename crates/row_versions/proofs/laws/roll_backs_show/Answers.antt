use Rattle.row_versions.proofs.RolledBack.{roll-backs-show}
use Rattle.row_versions.proofs.laws.roll_backs_show.Goals as goal

pub returns : goal.returns
returns c = record { law = roll-backs-show }
