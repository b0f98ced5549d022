use Rattle.std.proofs.Common.{arith, sym, ap, ◌∙◌}
use Rattle.turn_lock.specs.Pass.{Known}
use Rattle.turn_lock.specs.Which.{Which}
use Rattle.turn_lock.proofs.Numbers.{joins}
use Rattle.turn_lock.proofs.lock.Lock.give_back.Goals as goal

pub join_seat-requires : goal.join_seat-requires
join_seat-requires g c =
    let here = sym (ap (λ (w : Which). w.id) c.self.view_is) in
    let p = c.pass.invariant in
    let o = c.other.invariant in (
      ap (λ (k : Known g.row.T-Entry.Denot). k.lock) c.pass.view_is ∙ (c.requires.lock.0 ∙ here),
      ap (λ (k : Known g.row.T-Entry.Denot). k.lock) c.other.view_is ∙ (c.requires.lock.1 ∙ here),
      o.2,
      (let w = c.self.invariant.0 in omega arith),
      joins _ _ _ _ _ _ _ p.0.0 o.0.0 p.1 o.1,
    )
