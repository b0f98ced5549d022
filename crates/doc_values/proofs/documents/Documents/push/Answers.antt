use Rattle.std.proofs.Common.{◌≡◌, ◌∙◌, string_bytes}
use Rattle.std.proofs.lemmas.Result.{err_from_is_err_and}
use Rattle.doc_values.specs.declared.doc_place.DocPlace.{DocPlace}
use Rattle.doc_values.specs.Packed.{document_in}
use Rattle.doc_values.proofs.Placed.{ranges_same, documents_kept, document_pushed, places_pushed, placed_here, document_here}
use Rattle.doc_values.proofs.documents.Documents.push.Goals as goal

pub returns-in_err-span-clause-memory : goal.returns-in_err-span-clause-memory
returns-in_err-span-clause-memory c =
    let s = c.self.inside in
    let p = err_from_is_err_and c.from_residual.result c.from_residual.ensures.1 in
    rw (p.1, ← c.self.view_is) (documents_kept (string_bytes s.texts) (string_bytes c.append_text.new.texts) c.append_text.ensures.kept s.fields.items s.fields.items (ranges_same s.fields.items) s.places.items c.self.invariant)

pub returns-in_err-first-clause-memory : goal.returns-in_err-first-clause-memory
returns-in_err-first-clause-memory c =
    let s = c.self.inside in
    let p = err_from_is_err_and c.from_residual-in_err-first.result c.from_residual-in_err-first.ensures.1 in
    rw (p.1, ← c.self.view_is)
    (documents_kept (string_bytes s.texts) (string_bytes c.append_text.new.texts) c.append_text.ensures.kept s.fields.items c.append_fields.new.fields.items c.append_fields.ensures.kept s.places.items c.self.invariant)

pub returns-in_err-push-clause-memory : goal.returns-in_err-push-clause-memory
returns-in_err-push-clause-memory c =
    let s = c.self.inside in
    let p = err_from_is_err_and c.from_residual-in_err-push.result c.from_residual-in_err-push.ensures.1 in
    rw (p.1, ← c.self.view_is, c.in_err-push.ensures.items)
    (documents_kept (string_bytes s.texts) (string_bytes c.append_text.new.texts) c.append_text.ensures.kept s.fields.items c.append_fields.new.fields.items c.append_fields.ensures.kept s.places.items c.self.invariant)

pub invariant_of-self-2 : goal.invariant_of-self-2
invariant_of-self-2 c =
    let s = c.self.inside in
    let new = string_bytes c.append_text.new.texts in
    let cells = c.append_fields.new.fields.items in
    let p : DocPlace = record { texts = c.in_ok-span.span; first = c.in_ok-first.first; last = c.in_ok-first.last } in
    let span = c.in_ok-span.ensures.ok in
    let at = c.in_ok-first.ensures.ok in
    places_pushed (string_bytes s.texts) new c.append_text.ensures.kept s.fields.items cells c.append_fields.ensures.kept s.places.items c.push.new.self.items p c.self.invariant c.in_ok-push.ensures.items
    (placed_here new c.body.result.0.now cells c.body.result.1.now p span.0 span.1 at.0 at.1 at.2 c.body.ensures.packed)

pub returns-clause-ok : goal.returns-clause-ok
returns-clause-ok c =
    let s = c.self.inside in
    let new = string_bytes c.append_text.new.texts in
    let cells = c.append_fields.new.fields.items in
    let p : DocPlace = record { texts = c.in_ok-span.span; first = c.in_ok-first.first; last = c.in_ok-first.last } in
    let span = c.in_ok-span.ensures.ok in
    let at = c.in_ok-first.ensures.ok in
    let is : document_in new cells p ≡ c.args.document.now = document_here new c.body.result.0.now cells c.body.result.1.now p span.0 span.1 at.0 at.1 at.2 c.body.ensures.packed ∙ c.body.ensures.exact in
    rw (← c.self.view_is)
    (document_pushed (string_bytes s.texts) new c.append_text.ensures.kept s.fields.items cells c.append_fields.ensures.kept s.places.items c.push.new.self.items p c.args.document.now c.self.invariant c.in_ok-push.ensures.items is)
