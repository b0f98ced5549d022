use Rattle.std.proofs.Common.{arith, ap, ◌∙◌}
use Rattle.turn_lock.proofs.Turns.{queues, looks_up}
use Rattle.turn_lock.proofs.steps.wait.Goals as goal

pub fetch_add-ticket-requires : goal.fetch_add-ticket-requires
fetch_add-ticket-requires g c = (c.requires.at.0, (let w = c.requires.at.1 in omega arith), queues _ _ _ _ _ _ c.requires.idle)

pub load-serving-requires : goal.load-serving-requires
load-serving-requires g c =
    let i = c.loop.invariant in
    (i.0 ∙ c.requires.at.0, (let w = c.requires.at.1 in omega arith), looks_up _ _ _ _ _ i.2.0 _ (ap (λ m. m.0.stage) i.2.2))
