use Rattle.sql_eval.proofs.OneLines.{meaning_stays}
use Rattle.sql_eval.proofs.laws.meanings_are_on_one_line.Goals as goal

pub returns : goal.returns
returns c = record { kept = λ scope group t want plain. meaning_stays scope t group plain want }
