use Rattle.std.proofs.Common.{sym, ap, subst, is_some}
use Rattle.doc_values.specs.Doc.{IsDocument}
use Rattle.doc_values.proofs.Places.{value-stands, value-fits, without_field-stands, without_field-absent, IsDocument-remove}
use Rattle.doc_values.proofs.doc.Doc.remove.Goals as goal

pub invariant_of-self : goal.invariant_of-self
invariant_of-self c = rw (c.remove.ensures.items, c.self.view_is) (IsDocument-remove _ _ _ (subst IsDocument c.self.view_is c.self.invariant) c.in-Ok.ensures.exact)

pub returns-in-Ok-clause-exact : goal.returns-in-Ok-clause-exact
returns-in-Ok-clause-exact c = rw (c.remove.ensures.items, c.self.view_is) (without_field-stands _ _ _ c.in-Ok.ensures.exact)

pub returns-in-Ok-clause-found : goal.returns-in-Ok-clause-found
returns-in-Ok-clause-found c = sym (ap is_some (value-stands _ _ _ c.remove.result c.in-Ok.ensures.exact))

pub returns-in-Ok-clause-kept : goal.returns-in-Ok-clause-kept
returns-in-Ok-clause-kept c = rw (c.remove.ensures.items, c.self.view_is) (IsDocument-remove _ _ _ (subst IsDocument c.self.view_is c.self.invariant) c.in-Ok.ensures.exact)

pub returns-in-Err-clause-exact : goal.returns-in-Err-clause-exact
returns-in-Err-clause-exact c = without_field-absent _ _ (value-fits _ _ _ (subst IsDocument c.self.view_is c.self.invariant) c.in-Err.ensures.exact)

pub returns-in-Err-clause-found : goal.returns-in-Err-clause-found
returns-in-Err-clause-found c = sym (ap is_some (value-fits _ _ _ (subst IsDocument c.self.view_is c.self.invariant) c.in-Err.ensures.exact))
