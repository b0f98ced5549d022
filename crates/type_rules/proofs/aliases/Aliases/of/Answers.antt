use Rattle.std.proofs.Common.{take}
use Rattle.type_rules.proofs.Naming.{all_alike}
use Rattle.type_rules.proofs.aliases.Aliases.of.Goals as goal

pub returns-then-not-branch-clause-broken : goal.returns-then-not-branch-clause-broken
returns-then-not-branch-clause-broken c =
    let items = c.args.items.now in
    let i = c.loop-item.item-index in
    let one = c.in_ok-note.ensures.new (take i items) c.loop-item.invariant.terms in
    λ rule same. (cc, all_alike items i c.item-item.result c.in_ok-note.field-0 c.loop-item-test.true c.item-item.is one c.if-not-branch.true)
