use Rattle.std.proofs.Common.{subst}
use Rattle.doc_values.specs.Doc.{IsDocument}
use Rattle.doc_values.proofs.Places.{with_field-set, with_field-fits, IsDocument-set, IsDocument-insert}
use Rattle.doc_values.proofs.doc.Doc.set.Goals as goal

-- the value is written over the one under the name
pub invariant_of-self : goal.invariant_of-self
invariant_of-self c = IsDocument-set _ _ c.args.name c.self.invariant c.index_mut.result.now c.args.value (rw (← c.text.ensures.exact, c.self.view_is) c.in-Ok.ensures.exact) c.index_mut.ensures.value c.requires

pub returns-in-Ok-clause-ok : goal.returns-in-Ok-clause-ok
returns-in-Ok-clause-ok c =
    let document : IsDocument c.args.self.now = subst IsDocument c.self.view_is c.self.invariant in
    rw c.self.view_is (with_field-set _ _ c.args.name document c.index_mut.result.now c.args.value (rw (← c.text.ensures.exact) c.in-Ok.ensures.exact) (rw c.self.view_is at c.index_mut.ensures.value))

pub returns-in-Ok-clause-kept : goal.returns-in-Ok-clause-kept
returns-in-Ok-clause-kept c = IsDocument-set _ _ c.args.name c.self.invariant c.index_mut.result.now c.args.value (rw (← c.text.ensures.exact, c.self.view_is) c.in-Ok.ensures.exact) c.index_mut.ensures.value c.requires

-- the field is put in
pub invariant_of-self-in-Continue-1 : goal.invariant_of-self-in-Continue-1
invariant_of-self-in-Continue-1 c = rw c.in_ok-insert-in-Err.ensures.items (IsDocument-insert _ _ c.args.name c.self.invariant c.args.value (rw (← c.text.ensures.exact, c.self.view_is) c.in-Err.ensures.exact) c.requires)

pub returns-in_ok-insert-in-Err-clause-ok : goal.returns-in_ok-insert-in-Err-clause-ok
returns-in_ok-insert-in-Err-clause-ok c =
    rw (c.in_ok-insert-in-Err.ensures.items, c.self.view_is) (with_field-fits c.args.name c.args.self.now c.in-Err.place c.args.value (rw (← c.text.ensures.exact) c.in-Err.ensures.exact))

pub returns-in_ok-insert-in-Err-clause-kept : goal.returns-in_ok-insert-in-Err-clause-kept
returns-in_ok-insert-in-Err-clause-kept c = rw c.in_ok-insert-in-Err.ensures.items (IsDocument-insert _ _ c.args.name c.self.invariant c.args.value (rw (← c.text.ensures.exact, c.self.view_is) c.in-Err.ensures.exact) c.requires)
