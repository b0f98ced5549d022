use Rattle.sinew_laws.proofs.StateRows.{below_the_next, numbered_on}
use Rattle.sinew_laws.proofs.states.rows_are_numbered_on.Goals as goal

pub returns : goal.returns
returns c = record { below = below_the_next; loads = numbered_on }
