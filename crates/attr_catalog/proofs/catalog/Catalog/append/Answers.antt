use Rattle.std.proofs.Common.{◌∙◌, sym, ap, Some}
use Rattle.attr_catalog.specs.Inside.{with_id}
use Rattle.attr_catalog.proofs.Appended.{no_error, known-ends, new-ends, on_ok}
use Rattle.attr_catalog.proofs.OneMore.{number-push}
use Rattle.attr_catalog.proofs.catalog.Catalog.append.Goals as goal

pub invariant_of-self-in-Some : goal.invariant_of-self-in-Some
invariant_of-self-in-Some c = (known-ends c.self.inside.names c.self.inside.stored.items c.self.invariant c.args.self.now c.self.view_is c.args.name.now c.args.kind c.args.id c.requires.new c.requires.next c.requires.room c.with-kinds.result c.fresh.result c.set.new.self c.push.new.self.items c.in_ok-push-in-Some.ensures.items c.in-Some.place c.kinds.result (sym c.in-Some.ensures.exact) c.kinds.ensures.exact c.with-kinds.ensures.exact c.fresh.ensures.exact c.set.ensures.exact).0

pub invariant_of-self-else-is_err : goal.invariant_of-self-else-is_err
invariant_of-self-else-is_err c = (new-ends c.self.inside.names c.self.inside.stored.items c.self.invariant c.args.self.now c.self.view_is c.args.name.now c.args.kind c.args.id c.requires.new c.requires.next c.requires.room c.with-kinds-in-None.result c.fresh-in-None.result c.push-pushed.new.self c.push-in-None.new.self.items c.in_ok-push-in-None.ensures.items c.len.result (sym c.in-None.ensures.exact) (c.with-kinds-in-None.ensures.exact ∙ ap (with_id c.args.kind (Some c.args.id)) c.none.ensures.exact) c.len.ensures.exact c.fresh-in-None.ensures.exact (no_error c.push-pushed.result (sym c.is_err.ensures.value ∙ c.if-is_err.false) c.push-pushed.ensures.ok)).0

pub returns-in_ok-push-in-Some-clause-ok : goal.returns-in_ok-push-in-Some-clause-ok
returns-in_ok-push-in-Some-clause-ok c = (known-ends c.self.inside.names c.self.inside.stored.items c.self.invariant c.args.self.now c.self.view_is c.args.name.now c.args.kind c.args.id c.requires.new c.requires.next c.requires.room c.with-kinds.result c.fresh.result c.set.new.self c.push.new.self.items c.in_ok-push-in-Some.ensures.items c.in-Some.place c.kinds.result (sym c.in-Some.ensures.exact) c.kinds.ensures.exact c.with-kinds.ensures.exact c.fresh.ensures.exact c.set.ensures.exact).1

pub returns-in_ok-push-in-Some-clause-number : goal.returns-in_ok-push-in-Some-clause-number
returns-in_ok-push-in-Some-clause-number c = number-push c.args.name.now c.args.kind c.args.self.now _ c.args.id c.requires.new c.requires.next (known-ends c.self.inside.names c.self.inside.stored.items c.self.invariant c.args.self.now c.self.view_is c.args.name.now c.args.kind c.args.id c.requires.new c.requires.next c.requires.room c.with-kinds.result c.fresh.result c.set.new.self c.push.new.self.items c.in_ok-push-in-Some.ensures.items c.in-Some.place c.kinds.result (sym c.in-Some.ensures.exact) c.kinds.ensures.exact c.with-kinds.ensures.exact c.fresh.ensures.exact c.set.ensures.exact).1

pub returns-else-is_err-clause-ok : goal.returns-else-is_err-clause-ok
returns-else-is_err-clause-ok c = on_ok c.push-pushed.result (new-ends c.self.inside.names c.self.inside.stored.items c.self.invariant c.args.self.now c.self.view_is c.args.name.now c.args.kind c.args.id c.requires.new c.requires.next c.requires.room c.with-kinds-in-None.result c.fresh-in-None.result c.push-pushed.new.self c.push-in-None.new.self.items c.in_ok-push-in-None.ensures.items c.len.result (sym c.in-None.ensures.exact) (c.with-kinds-in-None.ensures.exact ∙ ap (with_id c.args.kind (Some c.args.id)) c.none.ensures.exact) c.len.ensures.exact c.fresh-in-None.ensures.exact (no_error c.push-pushed.result (sym c.is_err.ensures.value ∙ c.if-is_err.false) c.push-pushed.ensures.ok)).1

pub returns-else-is_err-clause-number : goal.returns-else-is_err-clause-number
returns-else-is_err-clause-number c = on_ok c.push-pushed.result (number-push c.args.name.now c.args.kind c.args.self.now _ c.args.id c.requires.new c.requires.next (new-ends c.self.inside.names c.self.inside.stored.items c.self.invariant c.args.self.now c.self.view_is c.args.name.now c.args.kind c.args.id c.requires.new c.requires.next c.requires.room c.with-kinds-in-None.result c.fresh-in-None.result c.push-pushed.new.self c.push-in-None.new.self.items c.in_ok-push-in-None.ensures.items c.len.result (sym c.in-None.ensures.exact) (c.with-kinds-in-None.ensures.exact ∙ ap (with_id c.args.kind (Some c.args.id)) c.none.ensures.exact) c.len.ensures.exact c.fresh-in-None.ensures.exact (no_error c.push-pushed.result (sym c.is_err.ensures.value ∙ c.if-is_err.false) c.push-pushed.ensures.ok)).1)
