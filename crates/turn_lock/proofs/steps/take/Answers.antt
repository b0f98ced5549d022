use Rattle.std.proofs.Common.{arith, sym, ap, ◌∙◌, Some, ◌∷◌}
use Rattle.atomic_table.specs.Table.{rest}
use Rattle.turn_lock.proofs.Turns.{takes_it}
use Rattle.turn_lock.proofs.steps.take.Goals as goal

pub load-count-requires : goal.load-count-requires
load-count-requires g c = (
  c.requires.at.0,
  (let w = c.requires.at.1 in omega arith),
  takes_it _ _ _ _ _ c.requires.called.0.0 _ c.requires.called.0.1 c.requires.called.1 c.requires.called.2,
)

pub exchange-found-requires : goal.exchange-found-requires
exchange-found-requires g c =
    let t = c.load-count.ensures in
    let x = t.2.1 in
    let has = ap (λ m. m.1) t.2.2 in
    (t.0 ∙ c.requires.at.0, (Some x, has ∙ ap (λ cs. (0, Some x) ∷ rest cs) (sym has)))
