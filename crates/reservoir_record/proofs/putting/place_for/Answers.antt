use Rattle.reservoir_record.proofs.Edited.{stands_nowhere}
use Rattle.reservoir_record.proofs.putting.place_for.Goals as goal

pub returns-in-Ok : goal.returns-in-Ok
returns-in-Ok c = record { exact = λ fields s. absurd (stands_nowhere fields c.args.bytes.now c.args.id c.in-Ok.place s (c.requires.absent fields s) (c.in-Ok.ensures.found fields s)) }
