use Rattle.std.proofs.Common.{Some, sym, ap, subst}
use Rattle.doc_values.specs.Doc.{IsDocument}
use Rattle.doc_values.proofs.Places.{value-stands, value-fits}
use Rattle.doc_values.proofs.doc.Doc.get.Goals as goal

pub returns-in-Ok : goal.returns-in-Ok
returns-in-Ok c = record { exact = rw (value-stands _ _ _ c.index.result.now c.in-Ok.ensures.exact, ← c.self.view_is) (ap (λ f. Some f.1) c.index.ensures) }

pub returns-in-Err : goal.returns-in-Err
returns-in-Err c = record { exact = sym (value-fits _ _ _ (subst IsDocument c.self.view_is c.self.invariant) c.in-Err.ensures.exact) }
