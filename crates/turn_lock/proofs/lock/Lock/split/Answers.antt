use Rattle.std.proofs.Common.{arith, sym, ap, ◌∙◌}
use Rattle.turn_lock.specs.Pass.{Known}
use Rattle.turn_lock.specs.Which.{Which}
use Rattle.turn_lock.proofs.Numbers.{divides}
use Rattle.turn_lock.proofs.lock.Lock.split.Goals as goal

pub split_seat-seat-requires : goal.split_seat-seat-requires
split_seat-seat-requires g c =
    let n = c.number-caller.ensures in
    let here = ap (λ (k : Known g.row.T-Entry.Denot). k.lock) c.pass.view_is ∙ (c.requires.lock ∙ sym (ap (λ (w : Which). w.id) c.self.view_is)) in
    let me = n.noted.1 in (
      n.same.0 ∙ here,
      (let w = c.self.invariant.0 in omega arith),
      divides _ _ _ _ c.number-caller.result _ (ap (λ m. m.0.live) me ∙ c.pass.invariant.0.0) (ap (λ m. m.0.drawn) me)
          (let lt = c.if-caller-from.false in let is = c.from.ensures in let of = c.self.invariant.2 in omega arith),
    )
