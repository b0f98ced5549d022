use Rattle.std.proofs.Common.{◌+◌, ◌<◌, ◌∷◌, ◌∙◌, Option, length, drop, map, ap, sym, arith}
use Rattle.doc_values.specs.declared.value.Value.{Value}
use Rattle.layout_store.specs.Walked.{value_along}
use Rattle.layout_store.proofs.Dropped.{drop-next}
use Rattle.layout_store.proofs.value_walk.ValueWalkIterator.next.Goals as goal

pub returns-clause-steps : goal.returns-clause-steps
returns-clause-steps c =
    let w = c.args.self.now in
    let lt : w.place < length w.versions.now = omega (arith, c.if-place-self.false) in
    ap (map (value_along w.layout.now w.ways.now)) (drop-next w.versions.now w.place _ lt)
    ∙ ap (λ (o : Option Value). o ∷ map (value_along w.layout.now w.ways.now) (drop (w.place + 1) w.versions.now)) (sym c.along.ensures.exact)
