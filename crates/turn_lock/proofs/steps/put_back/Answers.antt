use Rattle.std.proofs.Common.{arith, ap, ◌∙◌, length, drop}
use Rattle.turn_lock.specs.Views.{adding}
use Rattle.turn_lock.proofs.Turns.{adds_filled, passes_on_added}
use Rattle.turn_lock.proofs.steps.put_back.Goals as goal

pub fetch_add-count-requires : goal.fetch_add-count-requires
fetch_add-count-requires g c =
    let full = c.fill.ensures.full in
    let h = c.requires.holds in
    let o = c.requires.own in (
      c.fill.ensures.same.0 ∙ c.requires.at.0,
      (let w = c.requires.at.1 in omega arith),
      adds_filled _ _ _ _ _ h.0.0 _ _ c.args.value o.0 full h.0.1 h.1 o.1 o.2 c.requires.short _ o.3,
    )

pub fetch_add-served-requires : goal.fetch_add-served-requires
fetch_add-served-requires g c =
    let full = c.fill.ensures.full in
    let h = c.requires.holds in
    let o = c.requires.own in
    let a = c.fetch_add-count.ensures in
    let history = g.T.Historied.history c.args.value in (
      a.0 ∙ (c.fill.ensures.same.0 ∙ c.requires.at.0),
      (let w = c.requires.at.1 in omega arith),
      passes_on_added _ _ _ _ _ h.0.0 _ _ c.args.value o.0 (a.2 c.args.value (ap (λ m. m.1) full) ∙ ap (λ m. (adding m.0 (drop (length m.0.seen) history), m.1)) full) c.requires.at.2 h.0.1 o.1,
    )
