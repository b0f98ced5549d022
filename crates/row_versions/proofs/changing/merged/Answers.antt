use Rattle.std.proofs.Common.{◌+◌, get_or, refl, sym, ap, subst, ◌∙◌, arith}
use Rattle.std.proofs.lemmas.Option.{slice_get-get_or}
use Rattle.row_versions.specs.declared.touch.Touch.{Touch}
use Rattle.row_versions.proofs.Merged.{IsMerged, merged-skip, merged-push, merged-all, starts-here, touch-here}
use Rattle.row_versions.proofs.changing.merged.Goals as goal
use Rattle.row_versions.proofs.changing.merged.Goals.{then-not-is_followed+in_ok-push, else-not-is_followed}

abbrev blank : Touch
blank = record { commit = 0; row = 0; place = 0 }

pub change_at-requires-clause-some : goal.change_at-requires-clause-some
change_at-requires-clause-some c =
    let t = get_or c.args.touches.now c.loop-at.at blank in
    let here = slice_get-get_or c.args.touches.now c.loop-at.at blank c.loop-at-test.true in
    let i = touch-here c.args.from c.args.to c.args.list.now.versions c.args.touches.now c.requires.order c.requires.all c.loop-at.at t here (λ u behind. c.if-not-is_followed.ensures.no refl t u here behind) in
    omega (arith, i.above)

pub change_at-requires-clause-start : goal.change_at-requires-clause-start
change_at-requires-clause-start c =
    let t = get_or c.args.touches.now c.loop-at.at blank in
    let here = slice_get-get_or c.args.touches.now c.loop-at.at blank c.loop-at-test.true in
    starts-here c.args.from c.args.to c.args.list.now.versions c.args.touches.now c.requires.order c.requires.all c.loop-at.at t here (λ u behind. c.if-not-is_followed.ensures.no refl t u here behind) c.requires.ordered

pub loop-at-preserved : goal.loop-at-preserved
loop-at-preserved c = elim c.if-not-is_followed.branch [
  | then-not-is_followed+in_ok-push w ↦ (
      let t = get_or c.args.touches.now c.loop-at.at blank in
      let here = slice_get-get_or c.args.touches.now c.loop-at.at blank c.loop-at-test.true in
      let grown = ap (λ v. v.items) w.changes-is ∙ w.in_ok-push.ensures.items in
      subst (λ l. IsMerged c.args.from c.args.to c.args.list.now.versions c.args.touches.now l (c.loop-at.at + 1)) (sym grown)
      (merged-push c.args.from c.args.to c.args.list.now.versions c.args.touches.now c.requires.order c.requires.all c.loop-at.at t here (λ u behind. w.if-not-is_followed.ensures.no refl t u here behind) c.loop-at.changes.items c.loop-at.invariant w.change_at.result w.change_at.ensures.exact))
  | else-not-is_followed w ↦ (
      let y = w.if-not-is_followed.ensures.yes refl in
      subst (λ l. IsMerged c.args.from c.args.to c.args.list.now.versions c.args.touches.now l (c.loop-at.at + 1)) (sym (ap (λ v. v.items) w.changes-is))
      (merged-skip c.args.from c.args.to c.args.list.now.versions c.args.touches.now c.loop-at.changes.items c.loop-at.at c.loop-at.invariant y.0 y.2 y.1 y.3 y.4))
]

pub returns : goal.returns
returns c = record { ok = merged-all c.args.from c.args.to c.loop-at.at c.args.list.now.versions c.args.touches.now c.loop-at.changes.items c.requires.all c.loop-at.invariant (omega (arith, c.loop-at-test.false)) }
