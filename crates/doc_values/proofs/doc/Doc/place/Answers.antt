use Rattle.std.proofs.Common.{rules, of_calls}
use Rattle.std.proofs.lemmas.Fn.{always_returns_same}
use Rattle.std.specs.Ordering.{nat_cmp}
use Rattle.std.specs.Cmp.Lexicographic.{slice_cmp}
use Rattle.doc_values.proofs.Places.{searched}
use Rattle.doc_values.proofs.doc.Doc.place.Goals as goal

-- the closure compares the name of a field, and the slice is the document's fields
pub returns-clause-exact : goal.returns-clause-exact
returns-clause-exact c =
    let facts = c.binary_search_by.ensures in
    let by_name = facts.position (λ f. slice_cmp nat_cmp f.0 c.args.name.now) (always_returns_same _ _ _ (λ a r f k. search (rules, of_calls))) in
    rw (← c.self.view_is, ← c.deref.ensures.value) (searched c.args.name.now _ (rw c.deref.ensures.value c.self.invariant) _ facts.bound by_name)
