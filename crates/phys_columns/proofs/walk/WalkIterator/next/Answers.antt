use Rattle.std.proofs.Common.{ap, arith, rules, length}
use Rattle.phys_columns.proofs.Walks.{left_none, left_end, left_next}
use Rattle.phys_columns.proofs.walk.WalkIterator.next.Goals as goal

pub returns-then-place-eq1024-clause-steps : goal.returns-then-place-eq1024-clause-steps
returns-then-place-eq1024-clause-steps c = (left_none _ c.in_ok-page.page _ c.in_ok-page.was (omega (arith, c.next-place.ensures.between)) (λ k from below. c.next-place.ensures.none k from (omega (arith, c.if-place-eq1024.true))), left_end _)

pub returns-clause-steps : goal.returns-clause-steps
returns-clause-steps c = left_next _ c.in_ok-page.page _ c.next-place.result _ c.in_ok-page.was c.next-place.ensures.between.0 (omega (arith, c.next-place.ensures.between, c.if-place-eq1024.false)) c.next-place.ensures.none (c.next-place.ensures.here (omega (arith, c.next-place.ensures.between, c.if-place-eq1024.false))) c.lend.ensures.exact

pub returns-clause-goes : goal.returns-clause-goes
returns-clause-goes c =
    let step = left_next _ c.in_ok-page.page _ c.next-place.result _ c.in_ok-page.was c.next-place.ensures.between.0 (omega (arith, c.next-place.ensures.between, c.if-place-eq1024.false)) c.next-place.ensures.none (c.next-place.ensures.here (omega (arith, c.next-place.ensures.between, c.if-place-eq1024.false))) c.lend.ensures.exact in
    let fewer = ap length step in
    search rules
