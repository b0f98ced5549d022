use Rattle.std.proofs.Common.{◌≡◌, ℕ, ◌%◌, ◌^◌}
use Rattle.turn_lock.specs.declared.stage.Stage.TheVariants.{Waits}
use Rattle.turn_lock.specs.Views.{at_stage}
use Rattle.turn_lock.proofs.steps.wait.Given as goal

-- the seat has a ticket, of which the variable has the last 64 bits, and waits
abbrev pub invariant-loop : goal.invariant-loop
invariant-loop g l = (l.seat.table_id ≡ l.fn.seat.table_id) × (l.seat.id ≡ l.fn.seat.id)
    × ((t : ℕ) × (t % 2 ^ 64 ≡ l.ticket) × (l.seat.me ≡ (at_stage l.fn.seat.me.0 (Waits t), l.fn.seat.me.1)))
