use Rattle.std.proofs.Common.{◌<◌, sym, ap, subst, ◌∙◌, arith}
use Rattle.row_versions.specs.History.{History, rolled_back}
use Rattle.row_versions.specs.Inside.{Linked, AreLinked, AreNewest}
use Rattle.row_versions.proofs.Rows.{rows-map, linked-rows, newest-rows}
use Rattle.row_versions.proofs.Together.{rolled-is, reopened-rise, reopened-endless, rolled-keeps}
use Rattle.row_versions.proofs.versions.Versions.roll_back.Goals as goal

pub cut-requires-clause-rise : goal.cut-requires-clause-rise
cut-requires-clause-rise c = reopened-rise c.args.commit c.self.inside.list.versions c.reopen.new.list.versions (ap (λ (l : Linked). l.versions) c.reopen.ensures.exact) c.self.invariant.kept.ordered.rise

pub cut-requires-clause-endless : goal.cut-requires-clause-endless
cut-requires-clause-endless c = reopened-endless c.args.commit c.self.inside.list.versions c.reopen.new.list.versions (ap (λ (l : Linked). l.versions) c.reopen.ensures.exact) c.self.invariant.kept.ordered

pub cut-requires-clause-linked : goal.cut-requires-clause-linked
cut-requires-clause-linked c = subst (λ (l : Linked). AreLinked l.versions l.links) (sym c.reopen.ensures.exact) (linked-rows c.self.inside.list.versions _ (rows-map c.args.commit c.self.inside.list.versions) c.self.inside.list.links c.self.invariant.linked)

pub cut-requires-clause-newest : goal.cut-requires-clause-newest
cut-requires-clause-newest c = subst (λ (l : Linked). AreNewest l.versions c.self.inside.lasts.items) (sym c.reopen.ensures.exact) (newest-rows c.self.inside.list.versions _ (rows-map c.args.commit c.self.inside.list.versions) c.self.inside.lasts.items c.self.invariant.newest)

pub invariant_of-self : goal.invariant_of-self
invariant_of-self c =
    let above : c.self.inside.horizon < c.args.commit = omega (arith, c.requires.above, ap (λ (h : History). h.horizon) c.self.view_is) in
    let made = ap (λ (l : Linked). l.versions) c.reopen.ensures.exact in
    rolled-keeps c.self.inside.list.versions c.reopen.new.list.versions c.cut.new.list.versions c.cut.new.list.links c.cut.new.lasts.items c.reopen.new.ended.items c.self.inside.horizon _ c.args.commit c.self.invariant.kept above made c.cut.ensures.exact c.cut.ensures.linked c.cut.ensures.newest
    (c.cut.ensures.ends c.reopen.new.ended.items c.reopen.ensures.ends) (omega (arith, c.self.invariant.fits, c.reopen.ensures.kept))

pub returns : goal.returns
returns c =
    let made = ap (λ (l : Linked). l.versions) c.reopen.ensures.exact in
    let back = rolled-is c.args.commit c.self.inside.list.versions c.reopen.new.list.versions c.cut.new.list.versions made c.cut.ensures.exact in
    record {
      exact = λ i. record {
        versions = (back ∙ ap (λ (h : History). rolled_back c.args.commit h.versions) c.self.view_is) i;
        horizon = (ap (λ (h : History). h.horizon) c.self.view_is) i;
      };
    }
