use Rattle.std.proofs.Common.{◌≡◌, ◌-◌, Some, None, length, slice_get, sym, ap, subst, ◌∙◌}
use Rattle.row_versions.specs.Inside.{AreEnded, Linked}
use Rattle.row_versions.proofs.Places.{has-front, no-last}
use Rattle.row_versions.proofs.Reopened.{all-early, none-early, all-reopened, reopened-ends, reopened-same}
use Rattle.row_versions.proofs.ends.reopen.Goals as goal

pub loop-last-preserved : goal.loop-last-preserved
loop-last-preserved c =
    let last : slice_get c.loop-last.ended.items (length c.loop-last.ended.items - 1) ≡ Some c.in-Some.last =
    ap (λ l. slice_get l (length l - 1)) (sym c.deref.ensures.value) ∙ sym c.last.ensures.value ∙ sym c.copied.ensures ∙ c.in-Some.is in
    let made = ap (λ (l : Linked). l.versions) c.set.ensures.exact in
    record {
      ends = reopened-ends c.loop-last.list.versions c.set.new.self.versions c.loop-last.ended.items c.take_last-last.new.self.items c.in-Some.last c.take_last-last.result c.version-version.result c.endless.result c.loop-last.invariant.ends last c.take_last-last.ensures.items c.version-version.ensures.exact c.endless.ensures.exact made;
      same = reopened-same c.args.commit c.loop-last.list.versions c.args.list.now.versions c.set.new.self.versions c.in-Some.last c.version-version.result c.endless.result c.version-version.ensures.exact (sym c.if-ends_before.ensures.exact) c.endless.ensures.exact made c.loop-last.invariant.same;
      links = ap (λ (l : Linked). l.links) c.set.ensures.exact ∙ c.loop-last.invariant.links;
      room = c.take_last-last.ensures.capacity ∙ c.loop-last.invariant.room;
    }

pub returns-in_default-clause-exact : goal.returns-in_default-clause-exact
returns-in_default-clause-exact c =
    let last : slice_get c.loop-last.ended.items (length c.loop-last.ended.items - 1) ≡ None =
    ap (λ l. slice_get l (length l - 1)) (sym c.deref.ensures.value) ∙ sym c.last.ensures.value ∙ sym c.copied.ensures ∙ c.in_default.is in
    let none = no-last c.loop-last.ended.items last in
    let all = all-reopened c.args.commit c.loop-last.list.versions c.args.list.now.versions (none-early c.args.commit c.loop-last.list.versions (subst (λ l. AreEnded c.loop-last.list.versions l) none c.loop-last.invariant.ends)) c.loop-last.invariant.same in
    λ i. record { versions = all i; links = c.loop-last.invariant.links i }

pub returns-then-ends_before-clause-exact : goal.returns-then-ends_before-clause-exact
returns-then-ends_before-clause-exact c =
    let last : slice_get c.loop-last.ended.items (length c.loop-last.ended.items - 1) ≡ Some c.in-Some.last =
    ap (λ l. slice_get l (length l - 1)) (sym c.deref.ensures.value) ∙ sym c.last.ensures.value ∙ sym c.copied.ensures ∙ c.in-Some.is in
    let front = has-front c.loop-last.ended.items c.in-Some.last last in
    let all = all-reopened c.args.commit c.loop-last.list.versions c.args.list.now.versions
    (all-early c.args.commit c.loop-last.list.versions front.0 c.in-Some.last c.version-version.result (subst (λ l. AreEnded c.loop-last.list.versions l) front.1 c.loop-last.invariant.ends) c.version-version.ensures.exact (sym c.if-ends_before.ensures.exact))
    c.loop-last.invariant.same in
    λ i. record { versions = all i; links = c.loop-last.invariant.links i }
