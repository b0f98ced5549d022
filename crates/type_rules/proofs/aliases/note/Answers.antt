use Rattle.std.proofs.Common.{Some, refl, sym, ap, ◌∙◌}
use Rattle.type_rules.proofs.Naming.{unnoted_terms, noted_new, noted_terms}
use Rattle.type_rules.proofs.aliases.note.Goals as goal

pub returns-in_ok-insert-in-Some-clause-new : goal.returns-in_ok-insert-in-Some-clause-new
returns-in_ok-insert-in-Some-clause-new c = λ before has.
    let some = c.in-Some.is ∙ ap Some (sym c.text.ensures.exact) in
    noted_new c.args.terms.now c.insert.new.self before c.args.item.now c.text.result.now c.in_ok-insert-in-Some.field-0 c.is_none.result has some c.in_ok-insert-in-Some.ensures.old c.is_none.ensures

pub returns-in_ok-insert-in-Some-clause-noted : goal.returns-in_ok-insert-in-Some-clause-noted
returns-in_ok-insert-in-Some-clause-noted c = λ before has new.
    let some = c.in-Some.is ∙ ap Some (sym c.text.ensures.exact) in
    noted_terms c.args.terms.now c.insert.new.self before c.args.item.now c.text.result.now _ c.in_ok-insert-in-Some.field-0 c.is_none.result has some refl c.in_ok-insert-in-Some.ensures.old c.is_none.ensures new c.in_ok-insert-in-Some.ensures.updates

pub returns-in-None-clause-noted : goal.returns-in-None-clause-noted
returns-in-None-clause-noted c = λ before has new. unnoted_terms c.args.terms.now c.args.terms.now before c.args.item.now has c.in-None.is
