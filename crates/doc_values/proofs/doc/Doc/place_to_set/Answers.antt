use Rattle.std.proofs.Common.{◌≡◌, length, true, is_lt, nat_cmp, ◌∙◌, sym}
use Rattle.std.specs.Cmp.Lexicographic.{slice_cmp}
use Rattle.doc_values.specs.Doc.{IsDocument}
use Rattle.doc_values.proofs.Places.{FitsAt-last}
use Rattle.doc_values.proofs.doc.Doc.place_to_set.Goals as goal

pub returns-in-Some-clause-exact : goal.returns-in-Some-clause-exact
returns-in-Some-clause-exact c =
    let fields = c.deref.result.now in
    let view : fields ≡ c.args.self.now = c.deref.ensures.value ∙ c.self.view_is in
    let document : IsDocument fields = rw c.deref.ensures.value c.self.invariant in
    let last = c.in-Some.field-0.now in
    let above : true ≡ is_lt (slice_cmp nat_cmp last.0 c.args.name.now) = rw c.text.ensures.exact at c.if-lt.ensures in
    let end : length fields ≡ c.len.result = c.deref.ensures.len ∙ sym c.len.ensures in
    rw (← view, ← end) (FitsAt-last _ fields last document c.in-Some.ensures.item.3.0 c.in-Some.ensures.item.1 above)
