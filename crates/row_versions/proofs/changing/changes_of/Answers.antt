use Rattle.std.proofs.Common.{◌+◌, get_or, sym, subst, arith}
use Rattle.row_versions.specs.Touched.{AreTouches, AreInOrder}
use Rattle.row_versions.proofs.Merged.{permuted, in-order, not-after}
use Rattle.row_versions.proofs.changing.changes_of.Goals as goal

pub merged-requires-clause-all : goal.merged-requires-clause-all
merged-requires-clause-all c = subst (λ l. AreTouches c.args.from c.args.to c.args.list.now.versions l) (sym c.deref.ensures.value) (permuted c.args.from c.args.to c.args.list.now.versions c.in_ok-touches.touches.items c.sort_unstable.new.self.items c.sort_unstable.ensures.permutation c.in_ok-touches.ensures.ok)

pub merged-requires-clause-order : goal.merged-requires-clause-order
merged-requires-clause-order c =
    let ts = c.sort_unstable.new.self.items in
    subst (λ l. AreInOrder l) (sym c.deref.ensures.value) (in-order ts (λ k z lt. not-after (get_or ts k z) (get_or ts (k + 1) z) (c.sort_unstable.ensures.sorted k z (omega arith) lt)))
